use Rattle.rpds_tree.specs.Differences.{member_change_value}
use Rattle.rpds_tree.proofs.Words.{true, refl}
use Rattle.rpds_tree.proofs.MemberDifferences.{members_are, no_value}
use Rattle.rpds_tree.proofs.Runs.{shows_in_order}
use Rattle.rpds_tree.proofs.set.red_black_tree_set.RedBlackTreeSet.diff.Goals as goal

pub invariant_of-result : goal.invariant_of-result
invariant_of-result g c = rw c.diff.ensures.rest (no_value (λ a b. true) refl g.T.Ord.cmp c.self.inside.map.entries c.other.inside.map.entries)

pub returns-clause-rest : goal.returns-clause-rest
returns-clause-rest g c =
    rw (← c.self.view_is, ← c.other.view_is, c.diff.ensures.rest) (members_are (λ a b. true) refl g.T.Ord.cmp c.self.inside.map.entries
    c.other.inside.map.entries)

pub returns-clause-runs : goal.returns-clause-runs
returns-clause-runs g c = shows_in_order member_change_value
