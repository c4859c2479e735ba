use Rattle.std.specs.Vec.Iter.{into_iter_items}
use Rattle.rpds_list.proofs.Replays.{IsOnTheWay}
use Rattle.rpds_list.proofs.queue.Queue.replay.Given as goal

abbrev pub invariant-loop-op : goal.invariant-loop-op
invariant-loop-op g l = IsOnTheWay l.fn.ops.items (into_iter_items l.op-iterator) l.queue l.fn.steps l.steps
