use Rattle.std.proofs.Common.{◌+◌, length, arith}
use Rattle.rpds_red_black.proofs.Logarithm.{power_le_log}
use Rattle.rpds_sequence.proofs.Items.{length_items}
use Rattle.rpds_sequence.proofs.sequence.Sequence.split_at_counted.Goals as goal

pub returns-in_err-before-clause-made : goal.returns-in_err-before-clause-made
returns-in_err-before-clause-made g c =
    let tree = c.self.inside.tree in
    let black = power_le_log (length tree.entries + 1) tree.black c.prove_sound.ensures.full in
    rw (← c.self.view_is, length_items tree.entries) (omega (arith, c.cut_at.ensures.steps.made_most, black, c.self.invariant.shallow))

pub returns-clause-made : goal.returns-clause-made
returns-clause-made g c =
    let tree = c.self.inside.tree in
    let black = power_le_log (length tree.entries + 1) tree.black c.prove_sound.ensures.full in
    rw (← c.self.view_is, length_items tree.entries) (omega (arith, c.cut_at.ensures.steps.made_most, black, c.self.invariant.shallow))
