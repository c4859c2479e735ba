use Rattle.std.proofs.Common.{◌≢◌, [], refl, rules}
use Rattle.std.proofs.lemmas.Bool.{false≢true}
use Rattle.rpds_lines.specs.Grammar.Items.{pieces_of_pair}
use Rattle.rpds_lines.proofs.Items.{items_next, no_items}
use Rattle.rpds_lines.proofs.parse.command.are_pairs.Goals as goal

pub loop-words-preserved : goal.loop-words-preserved
loop-words-preserved c =
    let read = c.in-Some.ensures in
    let next = items_next pieces_of_pair 1 (λ p. refl) c.in-Some.field-0 c.next_pair.new.self c.loop-words.words read.0 read.1 in
    (λ all. next.0 (c.loop-words.invariant.0 all), λ all. c.loop-words.invariant.1 (next.1 all))

pub returns-in_default : goal.returns-in_default
returns-in_default c =
    let some : c.loop-words.words ≢ [] = search rules in (
      λ no. absurd (false≢true no),
      λ all. absurd (no_items pieces_of_pair c.loop-words.words some c.in_default.ensures (c.loop-words.invariant.0 all)),
    )
