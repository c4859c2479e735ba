use Rattle.rpds_vector.proofs.Walks.{place_is}
use Rattle.rpds_vector.proofs.vector.Vector.place.Goals as goal

pub returns : goal.returns
returns g c = place_is c.args.index c.bucket.result c.self.view_is c.bucket.ensures
