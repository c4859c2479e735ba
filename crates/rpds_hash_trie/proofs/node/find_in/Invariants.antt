use Rattle.rpds_hash_trie.proofs.Words.{◌≡◌, ◌+◌, ◌≤◌, map, drop, hash_count, matches, found, hashes_in, stored}
use Rattle.rpds_hash_trie.proofs.node.find_in.Given as goal

abbrev pub invariant-loop-entry : goal.invariant-loop-entry
invariant-loop-entry g l =
    (found (matches g.Q.HashKey.same (g.Q.HashKey.seen l.key) l.hash) (map stored l.entries) ≡ found (matches g.Q.HashKey.same (g.Q.HashKey.seen l.key) l.hash) (map stored (drop l.entry-index l.entries)))
    × ((l.steps.matched + hash_count l.hash (hashes_in (map stored (drop l.entry-index l.entries))) ≤ l.initial.steps.matched + hash_count l.hash (hashes_in (map stored l.entries)))
    × (l.initial.steps.matched ≤ l.steps.matched)
    × (l.steps ≡ record l.initial.steps { matched = l.steps.matched }))
