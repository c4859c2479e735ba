use Rattle.std.proofs.Common.{rules}
use Rattle.rpds_table.proofs.table.answer.pairs.Pairs.new.Goals as goal

pub returns-then-not-range_fits : goal.returns-then-not-range_fits
returns-then-not-range_fits g c = search rules

pub returns : goal.returns
returns g c = search rules

pub invariant_of-result : goal.invariant_of-result
invariant_of-result g c = search rules
