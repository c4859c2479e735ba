use Rattle.std.proofs.Common.{length, ap, arith, lit<}
use Rattle.rpds_sequence.proofs.Items.{length_items}
use Rattle.rpds_red_black.proofs.Levels.{few_levels}
use Rattle.rpds_sequence.proofs.sequence.Sequence.iter.Goals as goal

-- the size is a usize, so no path is longer than the stack
pub over-requires : goal.over-requires
over-requires g c =
    let few = few_levels (length c.self.inside.tree.entries) (omega (arith, c.len-size.ensures, ap length c.self.view_is, length_items c.self.inside.tree.entries)) in
    (lit< tt, omega (arith, few, c.self.invariant.shallow))

pub over-requires-2 : goal.over-requires-2
over-requires-2 g c =
    let few = few_levels (length c.self.inside.tree.entries) (omega (arith, c.len-size.ensures, ap length c.self.view_is, length_items c.self.inside.tree.entries)) in
    (lit< tt, omega (arith, few, c.self.invariant.shallow))
