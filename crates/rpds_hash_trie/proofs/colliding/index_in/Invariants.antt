use Rattle.rpds_hash_trie.proofs.Words.{◌≡◌, ◌+◌, map, drop, matches, stored, index_of}
use Rattle.rpds_hash_trie.proofs.colliding.index_in.Given as goal

abbrev pub invariant-loop-entry : goal.invariant-loop-entry
invariant-loop-entry g l =
    (index_of (matches g.Q.HashKey.same (g.Q.HashKey.seen l.key) l.hash) (map stored l.entries) ≡ l.at + index_of (matches g.Q.HashKey.same (g.Q.HashKey.seen l.key) l.hash) (map stored (drop l.entry-index l.entries)))
    × (l.at ≡ l.entry-index)
