use Rattle.std.proofs.Common.{◌≡◌, ◌++◌, ◌+◌, ◌≤◌, map, length, vec_len, vec_capacity}
use Rattle.rpds_list.proofs.queue.Queue.iter.Given as goal

abbrev pub invariant-loop-item : goal.invariant-loop-item
invariant-loop-item g l =
    (map (λ x. x.now) l.waiting.items ++ l.item-iterator ≡ l.initial.item-iterator)
    × (vec_len l.waiting + length l.item-iterator ≤ vec_capacity l.waiting)
