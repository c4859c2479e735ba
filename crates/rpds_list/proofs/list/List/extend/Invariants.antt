use Rattle.std.proofs.Common.{◌≡◌, ◌++◌, reverse}
use Rattle.rpds_list.proofs.list.List.extend.Given as goal

abbrev pub invariant-loop-item : goal.invariant-loop-item
invariant-loop-item g l = l.longer ≡ reverse l.yielded ++ l.self
