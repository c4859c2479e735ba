use Rattle.rpds_serde.proofs.Collected.{made_of}
use Rattle.rpds_serde.proofs.hash_trie_map.deserialize.Goals as goal

pub returns-clause-entries : goal.returns-clause-entries
returns-clause-entries g c = made_of c.read_map.result (λ pairs made reads gives. (pairs, reads, gives.0)) c.read_map.ensures

pub returns-clause-degree : goal.returns-clause-degree
returns-clause-degree g c = made_of c.read_map.result (λ pairs made reads gives. gives.1) c.read_map.ensures

pub returns-clause-hasher : goal.returns-clause-hasher
returns-clause-hasher g c = made_of c.read_map.result (λ pairs made reads gives. gives.2) c.read_map.ensures
