-- `write_members` has printed the members before those that are left.
use Rattle.rpds_lines.specs.Printed.{text_of_member}
use Rattle.rpds_lines.proofs.Printed.{PrintsRange}
use Rattle.rpds_lines.proofs.print.range.write_members.Given as goal

abbrev pub invariant-loop-key : goal.invariant-loop-key
invariant-loop-key g l = PrintsRange text_of_member l.fn.members l.key-iterator (g.W.Write.contents l.fn.writer) (g.W.Write.contents l.writer)
