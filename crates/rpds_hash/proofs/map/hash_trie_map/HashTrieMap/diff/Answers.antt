use Rattle.rpds_hash.specs.HashDifferences.{change_value}
use Rattle.rpds_hash.proofs.Runs.{shows_in_order}
use Rattle.rpds_hash.proofs.map.hash_trie_map.HashTrieMap.diff.Goals as goal

pub returns-clause-runs : goal.returns-clause-runs
returns-clause-runs g c = shows_in_order change_value
