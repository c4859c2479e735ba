use Rattle.rpds_vector.proofs.Sound.{sound}
use Rattle.rpds_vector.proofs.vector.node.Node.prove_sound.Goals as goal

pub returns : goal.returns
returns g c = sound c.self.inside.bits c.self.inside.kind c.self.view_is c.self.invariant
