-- The words of a line, the first one first.
use Rattle.std.proofs.Common.{◌≡◌, ◌≢◌, ◌<◌, ◌==◌, ◌+◌, ◌%◌, ◌^◌, ℕ, List, [], ◌∷◌, ◌++◌, Option, Some, None, decimal, sym, length, ap, refl, ◌∙◌, arith}
use Rattle.std.proofs.Common.{false, ne_eqb}
use Rattle.std.specs.List.{join_with_byte}
use Rattle.std.proofs.lemmas.Fmt.{decimal_by_steps}
use Rattle.std.proofs.lemmas.List.Splits.{slice_split_none, slice_split_at, length-slice_split, join_with_byte-slice_split}
use Rattle.std.proofs.lemmas.List.Elements.{All-nil, All-cons, All-append, All-weaker}
use Rattle.rpds_lines.specs.Grammar.Pieces.{IsReadAs}
use Rattle.rpds_lines.specs.Words.{LacksSpace, words_of}

pub words_at_space : (line word rest : List ℕ) → LacksSpace word → line ≡ word ++ 32 ∷ rest → words_of line ≡ word ∷ words_of rest
words_at_space line word rest lacks is = ap words_of is ∙ slice_split_at (λ b. b == 32) word 32 rest
    (All-weaker (λ b. b ≢ 32) (λ b. (b == 32) ≡ false) (λ b other. ne_eqb b 32 other) word lacks) refl

pub words_without_space : (line : List ℕ) → LacksSpace line → words_of line ≡ line ∷ []
words_without_space line lacks = slice_split_none (λ b. b == 32) line (All-weaker (λ b. b ≢ 32) (λ b. (b == 32) ≡ false) (λ b other. ne_eqb b 32 other) line
    lacks)

pub words_nonempty : (line : List ℕ) → words_of line ≢ []
words_nonempty line none = omega (arith, length-slice_split (λ b. b == 32) line, ap length none)

LacksSpace_decimal : (n : ℕ) → n < 2 ^ 64 → LacksSpace (decimal n)
LacksSpace_decimal n fits =
    let lacks = λ (byte : ℕ). byte ≢ 32 in
    decimal_by_steps (λ _ digits. LacksSpace digits)
    (λ m small. All-cons lacks (48 + m) [] (λ is. omega (arith, is)) (All-nil lacks))
    (λ m digits large front. All-append lacks digits ((48 + m % 10) ∷ []) front (All-cons lacks (48 + m % 10) [] (λ is. omega (arith, is)) (All-nil lacks)))
    n fits

-- A line that is read as a number is one word, and a line of one word that writes a number is read as one.
pub number_alone : (fits : ℕ → Type 0) → ((n : ℕ) → fits n → n < 2 ^ 64) → (line : List ℕ) (read : Option ℕ) → IsReadAs fits decimal line read
    → IsReadAs fits (λ n. decimal n ∷ []) (words_of line) read
number_alone fits small line (Some n) read = (read.0, ap words_of read.1 ∙ words_without_space (decimal n) (LacksSpace_decimal n (small n read.0)))
number_alone fits small line None none = λ n fit is. none n fit (sym (join_with_byte-slice_split 32 line) ∙ ap (join_with_byte 32) is)
