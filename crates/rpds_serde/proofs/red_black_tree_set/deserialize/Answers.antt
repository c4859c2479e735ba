use Rattle.rpds_serde.proofs.Collected.{made_of}
use Rattle.rpds_serde.proofs.red_black_tree_set.deserialize.Goals as goal

pub returns-clause-members : goal.returns-clause-members
returns-clause-members g c = made_of c.read_sequence.result (λ items made reads gives. (items, reads, gives.0)) c.read_sequence.ensures

pub returns-clause-depth : goal.returns-clause-depth
returns-clause-depth g c = made_of c.read_sequence.result (λ items made reads gives. gives.1) c.read_sequence.ensures
