-- Which words write a number.
use Rattle.std.proofs.Common.{◌≡◌, ◌≢◌, ◌^◌, ◌<◌, ℕ, zero, suc, List, [], ◌∷◌, length, get_or, decimal, arith, sym, ap, ◌∙◌}
use Rattle.std.specs.Result.{result_ok, OkIff}
use Rattle.std.specs.Str.Parse.{ParsesUnsigned}
use Rattle.std.specs.declared.result.Result.{Result}
use Rattle.std.specs.declared.result.Result.TheVariants.{Ok, Err}
use Rattle.rpds_lines.specs.Grammar.Items.{pieces_of_number, AreNumbers}
use Rattle.rpds_lines.specs.Grammar.Pieces.{number, byte, Fits, IsRead}
use Rattle.rpds_lines.proofs.Items.{no_items}
use Rattle.std.proofs.lemmas.Str.Parse.{parse_plain, numerals_by_value, tells_digits, digit_at}
use Rattle.std.proofs.lemmas.Fmt.{decimal-digits_value, parse-decimal, first_decimal, decimal_is_IsNumeral, decimal_digit, decimal_injective}

-- Of a word whose first byte is a digit other than `0`, `parse` gives the number that it writes.
pub number_is_read : {E : Type 0} (word : List ℕ) (read : Result ℕ E) → 48 < get_or word 0 0 → get_or word 0 0 < 58 → ParsesUnsigned 64 10 word read
    → IsRead number word (result_ok read)
number_is_read {E} word (Ok n) low high h =
    let read = parse_plain (numerals_by_value _ tells_digits) {E = E} 64 word (Ok n) h (λ e. omega arith) in
    let spelled = decimal-digits_value (numerals_by_value _ tells_digits) word read.0.0 read.0.1 (λ e. omega arith) read.0.2 in
    (omega (arith, read.0.2, read.1), sym spelled ∙ ap decimal (sym read.1))
number_is_read word (Err e) low high h = λ n small is. cc (parse-decimal 64 n word (Err e) small small is h)

-- A word that begins otherwise, and isn't `0`, writes no number.
pub no_number : (word : List ℕ) → word ≢ (48 ∷ []) → (48 < get_or word 0 0 → get_or word 0 0 < 58 → ⊥) → (n : ℕ) → Fits (number n) → word ≢ decimal n
no_number word other outside zero small is = other (is ∙ decimal_digit 0 (omega arith))
no_number word other outside (suc n) small is =
    let digits = (decimal_is_IsNumeral (suc n) small).0 in
    let first = digit_at (decimal (suc n)) 0 digits.1 digits.0 in
    let above = first_decimal (suc n) (omega arith) small in
    let same = ap (λ l. get_or l 0 0) is in
    outside (omega (arith, same)) (omega (arith, same, first))

-- A number that is read is a byte's where it is below 256.
pub byte_is_read : {E : Type 0} (word : List ℕ) (m : ℕ) (read : Result ℕ E) → Fits (number m) → word ≡ decimal m → OkIff read (m < 2 ^ 8) m
    → IsRead byte word (result_ok read)
byte_is_read word m (Ok n) small spelled fits = (omega (arith, fits.0, fits.1), spelled ∙ ap decimal (sym fits.1))
byte_is_read word m (Err e) small spelled fits = λ n low is.
    let same = decimal_injective m n small (omega arith) (sym spelled ∙ is) in
    fits (omega (arith, same))

-- Words of which the first writes no number aren't numbers.
pub no_numbers : (word : List ℕ) (rest words : List (List ℕ)) → words ≡ word ∷ rest → ((n : ℕ) → Fits (number n) → word ≢ decimal n) → AreNumbers words → ⊥
no_numbers word rest words next none numbers =
    no_items pieces_of_number words (λ is. omega (arith, ap length (sym next ∙ is))) (λ n others fit is. none n fit.0
    (ap (λ ws. get_or ws 0 []) (sym next ∙ is))) numbers
