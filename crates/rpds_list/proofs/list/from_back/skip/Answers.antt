use Rattle.std.proofs.Common.{arith}
use Rattle.rpds_list.specs.Chain.{items}
use Rattle.rpds_list.proofs.Halves.{none_left}
use Rattle.rpds_list.proofs.list.from_back.skip.Goals as goal

-- the chain ends at no place before the one that is asked for
pub returns-in-End : goal.returns-in-End
returns-in-End g c =
    absurd (none_left c.loop-i._i (items c.args.link.now) (rw c.in-End.is at c.loop-i.invariant) (omega (arith, c.requires, c.loop-i-test.true)))
