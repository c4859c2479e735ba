-- A line that writes a request is ASCII. Each of its words is short, and it has few of them or items to its end.
use Rattle.std.proofs.Common.{◌≡◌, ◌≢◌, ◌<◌, ◌≤◌, ◌*◌, ◌||◌, ◌⊎◌, inl, inr, ⊎_elim, ℕ, nat_eq, Bool, true, ◌&&◌, ltb, List, [], ◌∷◌, ◌++◌, length}
use Rattle.std.proofs.Common.{length-append, decimal, codes, refl, sym, ap, ◌∙◌, arith, rules, tests}
use Rattle.std.specs.Cmp.Lexicographic.{pointwise}
use Rattle.std.specs.List.{AllByRecursion, flat_map, join_with_byte, list_all}
use Rattle.std.specs.Str.{IsAscii, IsUtf8}
use Rattle.std.specs.declared.ops.Bound.TheVariants.{Included, Excluded, Unbounded}
use Rattle.std.proofs.lemmas.Bool.{false≢true}
use Rattle.std.proofs.lemmas.Fmt.{IsAscii-decimal, length-decimal-le}
use Rattle.std.proofs.lemmas.List.{length-map, take-append-le}
use Rattle.std.proofs.lemmas.List.Splits.{join_with_byte-slice_split}
use Rattle.std.proofs.lemmas.Str.{IsAscii-append, IsUtf8-from_ascii}
use Rattle.std.proofs.lemmas.Str.Ascii.{IsAscii-nil, IsAscii-cons}
use Rattle.rpds_table.specs.declared.table.kind.Kind.TheVariants as kinds
use Rattle.rpds_table.specs.declared.table.mode.Mode.TheVariants.{New, InPlace}
use Rattle.rpds_table.specs.declared.table.op.Op.TheVariants.{DropFirst}
use Rattle.rpds_table.specs.declared.table.command.Command.TheVariants.{Make, MakeDegree, MakeSorted, MakeSortedItems, Change, Extend}
use Rattle.rpds_table.specs.declared.table.question.Question.TheVariants.{First}
use Rattle.rpds_lines.specs.Grammar.{pieces_of_request}
use Rattle.rpds_lines.specs.Grammar.Items.{pieces_of_number, pieces_of_pair}
use Rattle.rpds_lines.specs.Grammar.Pieces.{Piece, word, number, byte, bound, text_of, texts_of, Fits, AllFit}
use Rattle.rpds_lines.specs.Kept.{begins_list, IsTooLong}
use Rattle.rpds_lines.specs.Words.{words_of}
use Rattle.rpds_lines.specs.declared.parse.Request.{Request}
use Rattle.rpds_lines.specs.declared.parse.Request.TheVariants as requests
use Rattle.rpds_lines.specs.declared.parse.snap.SnapRequest.TheVariants as snaps
use Rattle.rpds_snapshots.specs.declared.snapshots.command.SnapCommand.TheVariants.{Take}

-- ASCII, and short
abbrev IsPlain : List ℕ → Type 0
IsPlain text = IsAscii text × (length text < 22)

abbrev all_ascii : List ℕ → Bool
all_ascii text = list_all (λ b. ltb b 128) text

IsAscii_from_test : (text : List ℕ) → all_ascii text ≡ true → IsAscii text
IsAscii_from_test [] ok = IsAscii-nil
IsAscii_from_test (b ∷ bs) ok =
    let parts : (b < 128) × (all_ascii bs ≡ true) = search (rules, tests) in
    IsAscii-cons b bs parts.0 (IsAscii_from_test bs parts.1)

IsPlain_from_test : (text : List ℕ) → (ltb (length text) 22 && all_ascii text) ≡ true → IsPlain text
IsPlain_from_test text ok =
    let parts : (length text < 22) × (all_ascii text ≡ true) = search (rules, tests) in
    (IsAscii_from_test text parts.1, parts.0)

length_number : (n : ℕ) → Fits (number n) → length (decimal n) ≤ 20
length_number n fits = length-decimal-le 20 n (omega arith) (omega (arith, fits)) fits

IsPlain_number : (n : ℕ) → Fits (number n) → IsPlain (decimal n)
IsPlain_number n fits = (IsAscii-decimal n fits, omega (arith, length_number n fits))

-- a number behind a byte
IsPlain_marked : (mark n : ℕ) → mark < 128 → Fits (number n) → IsPlain (mark ∷ decimal n)
IsPlain_marked mark n ascii fits = (IsAscii-cons mark _ ascii (IsAscii-decimal n fits), omega (arith, length_number n fits))

-- a word of the grammar is ASCII, and short
abbrev is_plain : Piece → Bool
is_plain (word text) = ltb (length text) 22 && all_ascii text
is_plain _ = true

IsPlain_piece : (piece : Piece) → is_plain piece ≡ true → Fits piece → IsPlain (text_of piece)
IsPlain_piece (word text) ok fits = IsPlain_from_test text ok
IsPlain_piece (number n) ok fits = IsPlain_number n fits
IsPlain_piece (byte n) ok fits = IsPlain_number n (omega (arith, fits))
IsPlain_piece (bound (Included key)) ok fits = IsPlain_marked 91 key (omega arith) fits
IsPlain_piece (bound (Excluded key)) ok fits = IsPlain_marked 40 key (omega arith) fits
IsPlain_piece (bound Unbounded) ok fits = IsPlain_from_test (codes "*") refl

-- plain pieces, of which a line has few, or items to its end
abbrev AreShort : List Piece → Type 0
AreShort pieces = (list_all is_plain pieces ≡ true) × ((length pieces < 6) ⊎ (begins_list (join_with_byte 32 (texts_of pieces)) ≡ true))

plain_numbers : (numbers : List ℕ) → list_all is_plain (flat_map pieces_of_number numbers) ≡ true
plain_numbers [] = refl
plain_numbers (n ∷ numbers) = plain_numbers numbers

plain_pairs : (pairs : List (ℕ × ℕ)) → list_all is_plain (flat_map pieces_of_pair pairs) ≡ true
plain_pairs [] = refl
plain_pairs (p ∷ pairs) = plain_pairs pairs

-- Each form is tested by computing: a line with `_` stands for all forms that no line above it names.
short_request : {A : Type 0} (asked : Request A) → AreShort (pieces_of_request asked)
short_request (requests.Command (Make kinds.List)) = (refl, inl (omega arith))
short_request (requests.Command (Make _)) = (refl, inl (omega arith))
short_request (requests.Command (MakeDegree kinds.List degree)) = (refl, inl (omega arith))
short_request (requests.Command (MakeDegree _ degree)) = (refl, inl (omega arith))
short_request (requests.Command (MakeSorted pairs)) = (plain_pairs pairs.items, inr refl)
short_request (requests.Command (MakeSortedItems items)) = (plain_numbers items.items, inr refl)
short_request (requests.Command (Change i New DropFirst)) = (refl, inl (omega arith))
short_request (requests.Command (Change i New _)) = (refl, inl (omega arith))
short_request (requests.Command (Change i InPlace DropFirst)) = (refl, inl (omega arith))
short_request (requests.Command (Change i InPlace _)) = (refl, inl (omega arith))
short_request (requests.Command (Extend i items)) = (plain_numbers items.items, inr refl)
short_request (requests.Command _) = (refl, inl (omega arith))
short_request (requests.Question (First i)) = (refl, inl (omega arith))
short_request (requests.Question _) = (refl, inl (omega arith))
short_request (requests.Snap (snaps.Command Take)) = (refl, inl (omega arith))
short_request (requests.Snap (snaps.Command _)) = (refl, inl (omega arith))
short_request (requests.Snap _) = (refl, inl (omega arith))
short_request _ = (refl, inl (omega arith))

plain_words : (pieces : List Piece) → list_all is_plain pieces ≡ true → AllFit pieces → AllByRecursion IsPlain (texts_of pieces)
plain_words [] plain fit = tt
plain_words (piece ∷ pieces) plain fit =
    let parts : (is_plain piece ≡ true) × (list_all is_plain pieces ≡ true) = search (rules, tests) in
    (IsPlain_piece piece parts.0 fit.0, plain_words pieces parts.1 fit.1)

IsAscii_joined : (words : List (List ℕ)) → AllByRecursion IsPlain words → IsAscii (join_with_byte 32 words)
IsAscii_joined [] all = IsAscii-nil
IsAscii_joined (first ∷ []) all = all.0.0
IsAscii_joined (first ∷ next ∷ words) all = IsAscii-append first _ all.0.0 (IsAscii-cons 32 _ (omega arith) (IsAscii_joined (next ∷ words) all.1))

joined : {A : Type 0} (line : List ℕ) (asked : Request A) → words_of line ≡ texts_of (pieces_of_request asked)
    → line ≡ join_with_byte 32 (texts_of (pieces_of_request asked))
joined line asked written = sym (join_with_byte-slice_split 32 line) ∙ ap (join_with_byte 32) written

pub request_is_text : {A : Type 0} (line : List ℕ) (asked : Request A) → AllFit (pieces_of_request asked)
    → words_of line ≡ texts_of (pieces_of_request asked) → IsUtf8 line
request_is_text line asked fit written =
    rw (joined line asked written) (IsUtf8-from_ascii _ (IsAscii_joined _ (plain_words (pieces_of_request asked) (short_request asked).0 fit)))

length_joined : (words : List (List ℕ)) → AllByRecursion IsPlain words → length (join_with_byte 32 words) ≤ 22 * length words
length_joined [] all = omega arith
length_joined (first ∷ []) all = omega (arith, all.0.1)
length_joined (first ∷ next ∷ words) all =
    let rest = join_with_byte 32 (next ∷ words) in
    omega (arith, all.0.1, length-append first (32 ∷ rest), length_joined (next ∷ words) all.1)

-- Whether a line begins as one with items to its end is seen in its first bytes.
pub begins_same : (bytes more : List ℕ) → 127 < length bytes → begins_list (bytes ++ more) ≡ begins_list bytes
begins_same bytes more long =
    ap (λ front. pointwise nat_eq (codes "extend ") front || pointwise nat_eq (codes "sorted ") front) (take-append-le 7 bytes more (omega (arith, long)))

-- No request is written as a line that begins with too many bytes.
pub too_long_writes_none : {A : Type 0} (kept more : List ℕ) (asked : Request A) → IsTooLong kept → AllFit (pieces_of_request asked)
    → words_of (kept ++ more) ≢ texts_of (pieces_of_request asked)
too_long_writes_none kept more asked long fit written =
    let line = joined (kept ++ more) asked written in
    let pieces = pieces_of_request asked in
    let short = short_request asked in
    ⊎_elim
    (λ few. omega (
      arith,
      long.0,
      length_joined (texts_of pieces) (plain_words pieces short.0 fit),
      length-map pieces text_of,
      length-append kept more,
      ap length line,
    ))
    (λ begins. false≢true (sym long.1 ∙ sym (begins_same kept more long.0) ∙ ap begins_list line ∙ begins))
    short.1
