use Rattle.std.proofs.Common.{◌≡◌, drop}
use Rattle.rpds_list.specs.Chain.{items}
use Rattle.rpds_list.proofs.list.from_back.skip.Given as goal

abbrev pub invariant-loop-i : goal.invariant-loop-i
invariant-loop-i g l = items l.rest ≡ drop l._i (items l.link)
