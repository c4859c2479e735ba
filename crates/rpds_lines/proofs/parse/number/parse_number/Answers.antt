use Rattle.std.proofs.Common.{◌≡◌, [], ◌∷◌, get_or, ap, sym, ◌∙◌, rules, arith}
use Rattle.std.proofs.lemmas.Fmt.{decimal_digit}
use Rattle.rpds_lines.proofs.Numbers.{number_is_read, no_number}
use Rattle.rpds_lines.proofs.parse.number.parse_number.Goals as goal

pub returns-then-eq : goal.returns-then-eq
returns-then-eq c =
    let is : c.args.word.now ≡ 48 ∷ [] = search rules in
    (omega arith, is ∙ sym (decimal_digit 0 (omega arith)))

pub returns-in_err-first : goal.returns-in_err-first
returns-in_err-first c =
    let none : get_or c.args.word.now 0 0 ≡ 0 = ap (λ l. get_or l 0 0) (sym c.as_bytes.ensures.value) ∙ sym (c.in_err-first.ensures.item.4 (omega arith) 0) in
    rw c.from_residual.ensures (no_number c.args.word.now (λ is. search rules) (λ low high. omega (arith, none)))

pub returns-in-49-to-57 : goal.returns-in-49-to-57
returns-in-49-to-57 c =
    let first : get_or c.args.word.now 0 0 ≡ c.in_ok-first.field-0.now = ap (λ l. get_or l 0 0) (sym c.as_bytes.ensures.value)
    ∙ sym (c.in_ok-first.ensures.item.3.1 0) in
    rw c.ok.ensures.value (number_is_read c.args.word.now c.parse.result (omega (arith, first)) (omega (arith, first)) c.parse.ensures.value.0)

pub returns-in_default : goal.returns-in_default
returns-in_default c =
    let first : get_or c.args.word.now 0 0 ≡ c.in_ok-first.field-0.now = ap (λ l. get_or l 0 0) (sym c.as_bytes.ensures.value)
    ∙ sym (c.in_ok-first.ensures.item.3.1 0) in
    no_number c.args.word.now (λ is. search rules) (λ low high. omega (arith, first))

pub returns-in_default-2 : goal.returns-in_default-2
returns-in_default-2 c =
    let first : get_or c.args.word.now 0 0 ≡ c.in_ok-first.field-0.now = ap (λ l. get_or l 0 0) (sym c.as_bytes.ensures.value)
    ∙ sym (c.in_ok-first.ensures.item.3.1 0) in
    no_number c.args.word.now (λ is. search rules) (λ low high. omega (arith, first))
