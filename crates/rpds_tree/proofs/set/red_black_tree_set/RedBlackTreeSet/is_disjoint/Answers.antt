use Rattle.rpds_tree.proofs.Words.{◌∙◌}
use Rattle.rpds_tree.proofs.SideBySide.{disjoint_turned}
use Rattle.rpds_tree.proofs.set.red_black_tree_set.RedBlackTreeSet.is_disjoint.Goals as goal

pub returns-then-is_for_looking_up-2 : goal.returns-then-is_for_looking_up-2
returns-then-is_for_looking_up-2 g c = c.has_none_of-then-is_for_looking_up-2.ensures ∙ disjoint_turned g.met.T.Ord.total c.args.other.now.members
    c.args.self.now.members
