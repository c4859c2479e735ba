use Rattle.rpds_hash.specs.HashDifferences.{member_change_value}
use Rattle.rpds_hash.proofs.Words.{true, refl}
use Rattle.rpds_hash.proofs.Differences.{members_are, no_value}
use Rattle.rpds_hash.proofs.Runs.{shows_in_order}
use Rattle.rpds_hash.proofs.set.hash_trie_set.HashTrieSet.diff.Goals as goal

pub invariant_of-result : goal.invariant_of-result
invariant_of-result g c = rw c.diff.ensures.rest (no_value (λ a b. true) refl g.T.PartialEq.eq c.self.inside.map.entries c.other.inside.map.entries)

pub returns-clause-rest : goal.returns-clause-rest
returns-clause-rest g c =
    rw (← c.self.view_is, ← c.other.view_is, c.diff.ensures.rest) (members_are (λ a b. true) refl g.T.PartialEq.eq c.self.inside.map.entries
    c.other.inside.map.entries)

pub returns-clause-runs : goal.returns-clause-runs
returns-clause-runs g c = shows_in_order member_change_value
