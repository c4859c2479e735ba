use Rattle.rpds_hash_trie.proofs.Words.{◌≡◌, ◌∷◌, ◌++◌, map, drop, matches, unmatched, stored}
use Rattle.rpds_hash_trie.proofs.insert.others_of.Given as goal

abbrev pub invariant-loop-other : goal.invariant-loop-other
invariant-loop-other g l = unmatched (matches g.Q.HashKey.same (g.Q.HashKey.seen l.key) l.key_hash) (stored l.front ∷ map stored l.others)
    ≡ map stored l.rest.items ++ unmatched (matches g.Q.HashKey.same (g.Q.HashKey.seen l.key) l.key_hash) (map stored (drop l.other-index l.others))
