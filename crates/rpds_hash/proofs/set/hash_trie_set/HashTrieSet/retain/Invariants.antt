use Rattle.std.proofs.Common.{◌≡◌}
use Rattle.std.specs.Fn.{CalledAt}
use Rattle.rpds_hash.proofs.Kept.{Keeping}
use Rattle.rpds_hash.proofs.set.hash_trie_set.HashTrieSet.retain.Given as goal

abbrev pub invariant-loop-member : goal.invariant-loop-member
invariant-loop-member g l =
    goal.F-IsAlwaysCallable g l.keep
    × (l.left ≡ record l.fn.self { members = l.left.members })
    × Keeping (CalledAt g.F.FnMut) l.fn.keep l.fn.self.members l.keep l.left.members l.member-iterator
