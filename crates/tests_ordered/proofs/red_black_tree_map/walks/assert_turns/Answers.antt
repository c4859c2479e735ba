use Rattle.std.proofs.Common.{arith}
use Rattle.std.proofs.lemmas.Grind.{common_steps}
use Rattle.tests_ordered.proofs.red_black_tree_map.walks.assert_turns.Goals as goal

pub unreachable-assert : goal.unreachable-assert
unreachable-assert g c = grind (arith, common_steps)

pub loop-turn-preserved : goal.loop-turn-preserved
loop-turn-preserved g c = (c.requires.walk c.if-turns-turn-eq0.walk, c.requires.walk_ends c.if-turns-turn-eq0.walk)
