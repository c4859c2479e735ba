use Rattle.std.proofs.Common.{◌∷◌, ap, ◌∙◌, sym, refl}
use Rattle.std.proofs.lemmas.Bool.{false≢true}
use Rattle.rpds_lines.specs.Grammar.Items.{pieces_of_number}
use Rattle.rpds_lines.proofs.Items.{items_begun, items_left}
use Rattle.rpds_lines.proofs.Numbers.{no_numbers}
use Rattle.rpds_lines.proofs.parse.command.parse_numbers.Goals as goal

pub returns-in_default-parse_number-clause-read : goal.returns-in_default-parse_number-clause-read
returns-in_default-parse_number-clause-read g c = λ numbers fit is.
    let left = c.loop-word.words in
    let all = (items_begun pieces_of_number 0 (λ n. refl) c.loop-word.numbers.items c.args.words.now left c.loop-word.invariant).0 (numbers.items, fit, is) in
    no_numbers c.in-Some.word.now c.next.new.self left c.in-Some.ensures c.in_default-parse_number.ensures all

pub returns-then-are_numbers-clause-memory : goal.returns-then-are_numbers-clause-memory
returns-then-are_numbers-clause-memory g c =
    let item = c.in-Some-parse_number in
    let rest = c.next.new.self in
    let words = items_left pieces_of_number 0 (λ n. refl) c.loop-word.numbers.items item.item rest c.loop-word.words c.args.words.now
    c.loop-word.invariant (item.ensures.0, tt) (c.in-Some.ensures ∙ ap (λ w. w ∷ rest) item.ensures.1) in
    (words.0.1 (c.are_numbers.ensures.0 c.if-are_numbers.true), words.1)

pub returns-in_default-push-clause-read : goal.returns-in_default-push-clause-read
returns-in_default-push-clause-read g c = λ numbers fit is.
    let item = c.in-Some-parse_number in
    let rest = c.next.new.self in
    let words = items_left pieces_of_number 0 (λ n. refl) c.loop-word.numbers.items item.item rest c.loop-word.words c.args.words.now
    c.loop-word.invariant (item.ensures.0, tt) (c.in-Some.ensures ∙ ap (λ w. w ∷ rest) item.ensures.1) in
    false≢true (sym c.if-are_numbers.false ∙ c.are_numbers.ensures.1 (words.0.0 (numbers.items, fit, is)))
