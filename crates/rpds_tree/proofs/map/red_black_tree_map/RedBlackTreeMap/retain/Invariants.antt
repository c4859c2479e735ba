use Rattle.rpds_core.specs.Calls.{CalledAtEntry}
use Rattle.rpds_core.proofs.Asked.{Asked}
use Rattle.rpds_tree.proofs.map.red_black_tree_map.RedBlackTreeMap.retain.Given as goal

abbrev pub invariant-loop-key : goal.invariant-loop-key
invariant-loop-key g l =
    goal.F-IsAlwaysCallable g l.keep
    × Asked (CalledAtEntry g.F.FnMut) l.fn.keep l.fn.self.entries l.keep l.keeps.items l.key-iterator
