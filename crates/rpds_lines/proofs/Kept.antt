-- What the kept bytes say of a line.
use Rattle.std.proofs.Common.{◌≡◌, ◌≢◌, ◌<◌, inl, inr, ⊎_elim, ℕ, List, [], ◌++◌, Option, None, Some, length, length-append, refl, sym, ap, subst, ◌∙◌}
use Rattle.std.proofs.Common.{append_assoc, append-nil, arith}
use Rattle.std.proofs.lemmas.List.{nil_from_length}
use Rattle.std.proofs.lemmas.List.Elements.{All-nil, All-append}
use Rattle.rpds_lines.specs.Grammar.{IsRequestOf}
use Rattle.rpds_lines.specs.Kept.{IsTooLong, StandsFor}
use Rattle.rpds_lines.specs.Lines.{LacksLineFeed}
use Rattle.rpds_lines.specs.Words.{words_of}
use Rattle.rpds_lines.specs.declared.parse.Request.{Request}
use Rattle.rpds_lines.proofs.RequestLines.{too_long_writes_none}

-- An empty line.
pub stands_new : (kept : List ℕ) → kept ≡ [] → StandsFor kept []
stands_new kept none = record {
  skipped = [];
  whole = sym (ap (λ l. l ++ []) none);
  unbroken = All-nil (λ b. b ≢ 10);
  cause = inl refl;
}

-- Bytes that are all of the line.
pub stands_all : (line bytes : List ℕ) → line ≡ [] → LacksLineFeed bytes → StandsFor bytes (line ++ bytes)
stands_all line bytes none lacks = record {
  skipped = [];
  whole = ap (λ l. l ++ bytes) none ∙ sym (append-nil bytes);
  unbroken = subst (λ l. LacksLineFeed (l ++ bytes)) (sym none) lacks;
  cause = inl refl;
}

-- Where nothing is kept there is no line.
pub stands_none : (kept line : List ℕ) → StandsFor kept line → kept ≡ [] → line ≡ []
stands_none kept line stands none =
    ⊎_elim
    (λ all. stands.whole ∙ ap (λ l. l ++ stands.skipped) none ∙ all)
    (λ long. absurd (omega (arith, long.0, ap length none)))
    stands.cause

-- Where something is kept there is a line.
pub stands_some : (kept line : List ℕ) → StandsFor kept line → kept ≢ [] → line ≢ []
stands_some kept line stands some none =
    some (nil_from_length kept (omega (arith, length-append kept stands.skipped, ap length (sym stands.whole ∙ none))))

-- Where something was kept something is.
pub stands_after : (kept line more end : List ℕ) → StandsFor kept line → kept ≢ [] → StandsFor more (line ++ end) → more ≢ []
stands_after kept line more end stands some after none =
    stands_some kept line stands some (nil_from_length line (omega (arith, length-append line end, ap length (stands_none more (line ++ end) after none))))

-- More bytes of a line: as many are kept as there is room for, and no further ones, where it is too long.
pub stands_cut : (kept line bytes start rest : List ℕ) → StandsFor kept line → LacksLineFeed bytes → bytes ≡ start ++ rest → (127 < length kept → start ≡ [])
    → IsTooLong (kept ++ start) → StandsFor (kept ++ start) (line ++ bytes)
stands_cut kept line bytes start rest stands lacks cut full long =
    let unbroken = All-append (λ b. b ≢ 10) line bytes stands.unbroken lacks in
    ⊎_elim
    (λ all. record {
      skipped = rest;
      whole = ap (λ l. l ++ bytes) (stands.whole ∙ ap (λ l. kept ++ l) all ∙ append-nil kept) ∙ ap (λ l. kept ++ l) cut ∙ sym (append_assoc kept start rest);
      unbroken = unbroken;
      cause = inr long;
    })
    (λ before. record {
      skipped = stands.skipped ++ bytes;
      whole = ap (λ l. l ++ bytes) stands.whole ∙ append_assoc kept stands.skipped bytes
          ∙ sym (ap (λ l. l ++ (stands.skipped ++ bytes)) (ap (λ l. kept ++ l) (full before.0) ∙ append-nil kept));
      unbroken = unbroken;
      cause = inr long;
    })
    stands.cause

-- The same where it isn't too long: all bytes are kept.
pub stands_whole : (kept line bytes start rest : List ℕ) → StandsFor kept line → LacksLineFeed bytes → bytes ≡ start ++ rest → (127 < length kept → start ≡ [])
    → ¬ IsTooLong (kept ++ start) → StandsFor ((kept ++ start) ++ rest) (line ++ bytes)
stands_whole kept line bytes start rest stands lacks cut full short =
    ⊎_elim
    (λ all. record {
      skipped = [];
      whole = ap (λ l. l ++ bytes) (stands.whole ∙ ap (λ l. kept ++ l) all ∙ append-nil kept) ∙ ap (λ l. kept ++ l) cut
          ∙ sym (append_assoc kept start rest) ∙ sym (append-nil ((kept ++ start) ++ rest));
      unbroken = All-append (λ b. b ≢ 10) line bytes stands.unbroken lacks;
      cause = inl refl;
    })
    (λ before. absurd (short (subst IsTooLong (sym (ap (λ l. kept ++ l) (full before.0) ∙ append-nil kept)) before)))
    stands.cause

long_is_read : {A : Type 0} (kept more : List ℕ) (request : Option (Request A)) → IsTooLong kept → IsRequestOf kept request → IsRequestOf (kept ++ more) request
long_is_read kept more None long read = λ asked held. too_long_writes_none kept more asked long held
long_is_read kept more (Some asked) long read =
    absurd (too_long_writes_none kept [] asked long read.0 (ap words_of (append-nil kept) ∙ read.1))

-- A line is read as what is kept of it is.
pub kept_is_read : {A : Type 0} (kept line : List ℕ) (request : Option (Request A)) → StandsFor kept line → IsRequestOf kept request → IsRequestOf line request
kept_is_read kept line request stands read =
    ⊎_elim
    (λ all. subst (λ l. IsRequestOf l request) (sym (stands.whole ∙ ap (λ l. kept ++ l) all ∙ append-nil kept)) read)
    (λ long. subst (λ l. IsRequestOf l request) (sym stands.whole) (long_is_read kept stands.skipped request long read))
    stands.cause
