use Rattle.rpds_vector.proofs.Words.{arith}
use Rattle.rpds_vector.proofs.Walks.{place_inside, next_forward}
use Rattle.rpds_vector.proofs.vector.walk.direction.ForwardDirection.leaf.Goals as goal

pub offset_bounds-leaf-place : goal.offset_bounds-leaf-place
offset_bounds-leaf-place g c = omega (arith, place_inside c.leaf.result.now c.leaf.ensures c.place.ensures, c.leaf.type_inv.1)

pub slice_bounds-result-count : goal.slice_bounds-result-count
slice_bounds-result-count g c = omega (arith, place_inside c.leaf.result.now c.leaf.ensures c.place.ensures)

pub slice_bounds-result-start : goal.slice_bounds-result-start
slice_bounds-result-start g c = omega (arith, place_inside c.leaf.result.now c.leaf.ensures c.place.ensures)

pub returns-clause-next : goal.returns-clause-next
returns-clause-next g c = (next_forward c.leaf.result.now c.leaf.ensures c.place.ensures c.args.left (omega (arith, c.len.ensures.len))).next

pub returns-clause-some : goal.returns-clause-some
returns-clause-some g c = (next_forward c.leaf.result.now c.leaf.ensures c.place.ensures c.args.left (omega (arith, c.len.ensures.len))).some
