use Rattle.std.proofs.Common.{◌≡◌, ◌+◌, length, reverse}
use mathlib.Core.List.{reverse_aux}
use Rattle.rpds_list.specs.Chain.{items}
use Rattle.rpds_list.proofs.list.List.reverse_counted.Given as goal

abbrev pub invariant-loop-link : goal.invariant-loop-link
invariant-loop-link g l =
    (reverse_aux (items l.link) l.reversed ≡ reverse l.self) × (length l.reversed + length (items l.link) ≡ length l.self)
    × (l.steps.moved ≡ l.fn.steps.moved + length l.reversed) × (l.steps ≡ record l.fn.steps { moved = l.steps.moved })
