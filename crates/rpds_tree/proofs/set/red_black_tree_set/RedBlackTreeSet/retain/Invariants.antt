use Rattle.std.specs.Fn.{CalledAt}
use Rattle.rpds_core.proofs.Asked.{Asked}
use Rattle.rpds_tree.proofs.set.red_black_tree_set.RedBlackTreeSet.retain.Given as goal

abbrev pub invariant-loop-member : goal.invariant-loop-member
invariant-loop-member g l =
    goal.F-IsAlwaysCallable g l.keep
    × Asked (CalledAt g.F.FnMut) l.fn.keep l.fn.self.members l.keep l.keeps.items l.member-iterator
