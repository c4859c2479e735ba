use Rattle.rpds_serde.proofs.Collected.{made_of}
use Rattle.rpds_serde.proofs.red_black_tree_map.deserialize.Goals as goal

pub returns-clause-entries : goal.returns-clause-entries
returns-clause-entries g c = made_of c.read_map.result (λ pairs made reads gives. (pairs, reads, gives.0)) c.read_map.ensures

pub returns-clause-depth : goal.returns-clause-depth
returns-clause-depth g c = made_of c.read_map.result (λ pairs made reads gives. gives.1) c.read_map.ensures
