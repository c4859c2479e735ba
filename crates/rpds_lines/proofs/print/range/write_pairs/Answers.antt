use Rattle.std.proofs.Common.{[], sym}
use Rattle.rpds_lines.specs.Printed.{text_of_pair}
use Rattle.rpds_lines.proofs.Printed.{range_next, range_ended}
use Rattle.rpds_lines.proofs.print.range.write_pairs.Goals as goal

pub loop-key-init : goal.loop-key-init
loop-key-init g c = record { done = []; all = sym c.into_iter-key-iterator.ensures.into_iter_gives.0; written = c.in_ok-write.ensures.bytes }

pub loop-key-preserved : goal.loop-key-preserved
loop-key-preserved g c = range_next text_of_pair _ _ _ _ c.loop-key.invariant (c.in-Some.key.now, c.in-Some.value.now) _ _ c.in-Some.ensures.steps
    c.in_ok-write-2.ensures.bytes

pub returns : goal.returns
returns g c = range_ended text_of_pair _ _ _ _ c.loop-key.invariant c.writeln.result _ c.in-None.ensures.steps.0 c.writeln.ensures.bytes
