use Rattle.std.proofs.Common.{rules}
use Rattle.rpds_table.proofs.Spent.{free}
use Rattle.rpds_table.proofs.table.Table.perform.Goals as goal

pub returns-in-Make-clause-counts : goal.returns-in-Make-clause-counts
returns-in-Make-clause-counts g c = rw c.in-Make.is (free _ _)

pub returns-in-MakeBits-clause-counts : goal.returns-in-MakeBits-clause-counts
returns-in-MakeBits-clause-counts g c = rw c.in-MakeBits.is (free _ _)

pub returns-in-MakeDegree-clause-counts : goal.returns-in-MakeDegree-clause-counts
returns-in-MakeDegree-clause-counts g c = rw c.in-MakeDegree.is (free _ _)

pub returns-in-Copy-clause-counts : goal.returns-in-Copy-clause-counts
returns-in-Copy-clause-counts g c = rw (c.in-Copy.is, c.copy.ensures.counts) (free _ _)

pub returns-in-Make-clause-each : goal.returns-in-Make-clause-each
returns-in-Make-clause-each g c = rw c.in-Make.is tt

pub returns-in-MakeBits-clause-each : goal.returns-in-MakeBits-clause-each
returns-in-MakeBits-clause-each g c = rw c.in-MakeBits.is tt

pub returns-in-MakeDegree-clause-each : goal.returns-in-MakeDegree-clause-each
returns-in-MakeDegree-clause-each g c = rw c.in-MakeDegree.is tt

pub returns-in-Copy-clause-each : goal.returns-in-Copy-clause-each
returns-in-Copy-clause-each g c = rw c.in-Copy.is tt

pub returns-in-Extend-clause-each : goal.returns-in-Extend-clause-each
returns-in-Extend-clause-each g c = rw c.in-Extend.is tt

pub returns-in-WriteAt-clause-each : goal.returns-in-WriteAt-clause-each
returns-in-WriteAt-clause-each g c = rw c.in-WriteAt.is tt

pub returns-in-WriteKey-clause-each : goal.returns-in-WriteKey-clause-each
returns-in-WriteKey-clause-each g c = rw c.in-WriteKey.is tt

pub returns-in-Copy-clause-transition : goal.returns-in-Copy-clause-transition
returns-in-Copy-clause-transition g c = search rules

pub returns-in-Change-default-New-default-clause-transition : goal.returns-in-Change-default-New-default-clause-transition
returns-in-Change-default-New-default-clause-transition g c = search rules

pub returns-in-Change-default-New-default-clause-counts : goal.returns-in-Change-default-New-default-clause-counts
returns-in-Change-default-New-default-clause-counts g c = search rules
