use Rattle.rpds_hash_trie.proofs.Words.{◌≡◌, seen}
use Rattle.rpds_hash_trie.specs.HashSift.{children_below}
use Rattle.rpds_hash_trie.proofs.sift.first_children.Given as goal

abbrev pub invariant-loop-at : goal.invariant-loop-at
invariant-loop-at g l = seen l.kept ≡ children_below l.at (seen l.children)
