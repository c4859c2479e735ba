use Rattle.rpds_hash_trie.proofs.Counts.{made_one}
use Rattle.rpds_hash_trie.proofs.root.Root.insert.Goals as goal

pub returns-in_ok-leaf-in-None-clause-first : goal.returns-in_ok-leaf-in-None-clause-first
returns-in_ok-leaf-in-None-clause-first g c = λ none. made_one c.leaf.ensures.made
