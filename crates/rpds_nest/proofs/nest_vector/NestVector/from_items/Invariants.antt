use Rattle.std.proofs.Common.{◌≡◌, ◌++◌}
use Rattle.std.specs.Vec.Iter.{into_iter_items}
use Rattle.rpds_nest.proofs.nest_vector.NestVector.from_items.Given as goal

-- what is left is to come behind the vector's items
abbrev pub invariant-loop-item : goal.invariant-loop-item
invariant-loop-item g l =
    (goal.iterator-loop-item g).can_next l.item-iterator
    × (goal.iterator-loop-item g).is_finite l.item-iterator
    × (l.vector ++ into_iter_items l.item-iterator ≡ l.fn.items.items)
