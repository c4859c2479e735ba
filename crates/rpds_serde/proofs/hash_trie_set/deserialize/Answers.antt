use Rattle.rpds_serde.proofs.Collected.{made_of}
use Rattle.rpds_serde.proofs.hash_trie_set.deserialize.Goals as goal

pub returns-clause-members : goal.returns-clause-members
returns-clause-members g c = made_of c.read_sequence.result (λ items made reads gives. (items, reads, gives.0)) c.read_sequence.ensures

pub returns-clause-degree : goal.returns-clause-degree
returns-clause-degree g c = made_of c.read_sequence.result (λ items made reads gives. gives.1) c.read_sequence.ensures

pub returns-clause-hasher : goal.returns-clause-hasher
returns-clause-hasher g c = made_of c.read_sequence.result (λ items made reads gives. gives.2) c.read_sequence.ensures
