use Rattle.rpds_vector.proofs.Words.{◌+◌, sym, arith, length-take-le}
use Rattle.rpds_vector.proofs.Walks.{place_inside, next_back}
use Rattle.rpds_vector.proofs.vector.walk.direction.BackwardDirection.leaf.Goals as goal

pub slice_bounds-result-end : goal.slice_bounds-result-end
slice_bounds-result-end g c =
    sym (length-take-le (c.place.result + 1) c.leaf.result.now (omega (arith, place_inside c.leaf.result.now c.leaf.ensures c.place.ensures)))

pub returns-clause-next : goal.returns-clause-next
returns-clause-next g c =
    (next_back c.leaf.result.now c.leaf.ensures c.place.ensures c.args.left (omega (arith, c.requires.some))).next
