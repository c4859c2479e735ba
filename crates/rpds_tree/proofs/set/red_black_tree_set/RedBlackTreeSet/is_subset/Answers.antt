use Rattle.rpds_tree.proofs.Words.{arith}
use Rattle.rpds_tree.proofs.SideBySide.{not_subset}
use Rattle.rpds_tree.proofs.set.red_black_tree_set.RedBlackTreeSet.is_subset.Goals as goal

pub returns-then-size : goal.returns-then-size
returns-then-size g c =
    not_subset g.met.T.Ord.total c.args.self.now.members c.args.other.now.members c.size.ensures.ordered.ascending c.size-2.ensures.ordered.ascending
    (omega arith)
