-- The lines that bytes are cut into.
use Rattle.std.proofs.Common.{◌≡◌, ◌≢◌, ℕ, List, [], ◌∷◌, ◌++◌, All, cond, refl, ap, ◌∙◌, append_assoc, ne_eqb}
use Rattle.std.specs.List.{onto_first}
use Rattle.std.proofs.lemmas.Grind.{flat_map-append}
use Rattle.std.proofs.lemmas.List.Elements.{All-head, All-tail}
use Rattle.rpds_lines.specs.Lines.{LacksLineFeed, ended, lines_of}

pub ended_append : (first second : List (List ℕ)) → ended (first ++ second) ≡ ended first ++ ended second
ended_append first second = flat_map-append (λ line. line ++ 10 ∷ []) first second

lines_of_cons_no : (byte : ℕ) (bytes : List ℕ) → byte ≢ 10 → lines_of (byte ∷ bytes) ≡ onto_first byte (lines_of bytes)
lines_of_cons_no byte bytes other = ap (λ b. cond b ([] ∷ lines_of bytes) (onto_first byte (lines_of bytes))) (ne_eqb byte 10 other)

pub lines_of_line : (line rest : List ℕ) → LacksLineFeed line → lines_of (line ++ 10 ∷ rest) ≡ line ∷ lines_of rest
lines_of_line [] rest lacks = refl
lines_of_line (byte ∷ line) rest lacks =
    lines_of_cons_no byte (line ++ 10 ∷ rest) (All-head (λ b. b ≢ 10) byte line lacks)
    ∙ ap (onto_first byte) (lines_of_line line rest (All-tail (λ b. b ≢ 10) byte line lacks))

-- What lacks a line feed is one line, unless it is empty.
pub lines_of_one : (byte : ℕ) (line : List ℕ) → LacksLineFeed (byte ∷ line) → lines_of (byte ∷ line) ≡ (byte ∷ line) ∷ []
lines_of_one byte [] lacks = lines_of_cons_no byte [] (All-head (λ b. b ≢ 10) byte [] lacks)
lines_of_one byte (next ∷ line) lacks =
    lines_of_cons_no byte (next ∷ line) (All-head (λ b. b ≢ 10) byte (next ∷ line) lacks)
    ∙ ap (onto_first byte) (lines_of_one next line (All-tail (λ b. b ≢ 10) byte (next ∷ line) lacks))

pub lines_of_ended : (lines : List (List ℕ)) (rest : List ℕ) → All LacksLineFeed lines → lines_of (ended lines ++ rest) ≡ lines ++ lines_of rest
lines_of_ended [] rest each = refl
lines_of_ended (line ∷ lines) rest each =
    ap lines_of (append_assoc (line ++ 10 ∷ []) (ended lines) rest ∙ append_assoc line (10 ∷ []) (ended lines ++ rest))
    ∙ lines_of_line line (ended lines ++ rest) (All-head LacksLineFeed line lines each)
    ∙ ap (λ l. line ∷ l) (lines_of_ended lines rest (All-tail LacksLineFeed line lines each))
