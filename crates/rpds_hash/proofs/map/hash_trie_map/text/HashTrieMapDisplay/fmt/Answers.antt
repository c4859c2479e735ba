use Rattle.rpds_hash.proofs.map.hash_trie_map.text.HashTrieMapDisplay.fmt.Goals as goal

pub returns-clause-writes : goal.returns-clause-writes
returns-clause-writes g c = rw (← c.iter.ensures.rest) (c.write_pairs.ensures.writes (λ w. w) (λ old result new e. e))

pub returns-clause-styled : goal.returns-clause-styled
returns-clause-styled g c = rw (← c.iter.ensures.rest) (c.write_pairs.ensures.styled (λ w. w) (λ old result new e. e))
