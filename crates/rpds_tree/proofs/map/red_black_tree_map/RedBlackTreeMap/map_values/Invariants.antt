use Rattle.rpds_core.proofs.Values.{MakesOn}
use Rattle.rpds_core.specs.Calls.{HasValueOf}
use Rattle.rpds_tree.proofs.map.red_black_tree_map.RedBlackTreeMap.map_values.Given as goal

abbrev pub invariant-loop-key : goal.invariant-loop-key
invariant-loop-key g l = MakesOn (HasValueOf g.F.Fn l.change) l.self.entries l.key-iterator l.pairs.items
