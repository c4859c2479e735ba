use Rattle.std.proofs.Common.{◌∷◌, ap, ◌∙◌, refl}
use Rattle.std.proofs.lemmas.Bool.{false≢true}
use Rattle.rpds_lines.specs.Grammar.Items.{pieces_of_number}
use Rattle.rpds_lines.proofs.Items.{items_next}
use Rattle.rpds_lines.proofs.Numbers.{no_numbers}
use Rattle.rpds_lines.proofs.parse.command.are_numbers.Goals as goal

pub returns-in_default-parse_number : goal.returns-in_default-parse_number
returns-in_default-parse_number c = (
  λ no. absurd (false≢true no),
  λ all. absurd (no_numbers c.in-Some.word.now c.next.new.self c.loop-word.words c.in-Some.ensures c.in_default-parse_number.ensures
      (c.loop-word.invariant.0 all)),
)

pub loop-word-preserved : goal.loop-word-preserved
loop-word-preserved c =
    let read = c.in-Some-parse_number.ensures in
    let left = c.next.new.self in
    let next = items_next pieces_of_number 0 (λ n. refl) c.in-Some-parse_number.field-0 left c.loop-word.words (read.0, tt)
    (c.in-Some.ensures ∙ ap (λ w. w ∷ left) read.1) in
    (λ all. next.0 (c.loop-word.invariant.0 all), λ all. c.loop-word.invariant.1 (next.1 all))
