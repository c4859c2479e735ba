use Rattle.std.proofs.Common.{rules}
use Rattle.rpds_hash.proofs.set.hash_trie_set.HashTrieSet.is_disjoint.Goals as goal

pub returns-then-contains : goal.returns-then-contains
returns-then-contains g c = search rules

pub loop-member-preserved : goal.loop-member-preserved
loop-member-preserved g c = search rules
