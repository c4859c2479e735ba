use Rattle.std.proofs.Common.{◌≡◌, ◌+◌, ◌++◌, length}
use Rattle.rpds_list.proofs.queue.Queue.extend.Given as goal

abbrev pub invariant-loop-item : goal.invariant-loop-item
invariant-loop-item g l = l.longer ≡ record { items = l.self.items ++ l.yielded; waiting = l.self.waiting + length l.yielded }
