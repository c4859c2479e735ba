use Rattle.std.proofs.Common.{◌≡◌, ◌++◌, reverse}
use Rattle.rpds_hash.specs.HashedSet.{find_member}
use Rattle.rpds_hash.proofs.set.hash_trie_set.HashTrieSet.extend.Given as goal

abbrev pub invariant-loop-value : goal.invariant-loop-value
invariant-loop-value g l =
    (goal.iterator-loop-value g).can_next l.value-iterator
    × (goal.iterator-loop-value g).is_finite l.value-iterator
    × ((x : _) → find_member g.T.PartialEq.eq x l.longer.members ≡ find_member g.T.PartialEq.eq x (reverse l.yielded ++ l.self.members))
    × (l.longer ≡ record l.self { members = l.longer.members })
