use Rattle.rpds_vector.proofs.Words.{◌^◌, length, arith, mod_below, pow_pos}
use Rattle.rpds_vector.proofs.Roots.{last_bucket}
use Rattle.rpds_vector.proofs.vector.Vector.room.Goals as goal

pub returns : goal.returns
returns g c =
    let v = c.args.self.now in
    omega (arith, last_bucket c.self.view_is c.self.invariant c.bucket.ensures, c.leaf_room.ensures, mod_below (length v.items) (2 ^ v.bits) (pow_pos v.bits))
