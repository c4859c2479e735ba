-- `write_pairs` has printed the pairs before those that are left.
use Rattle.rpds_lines.specs.Printed.{text_of_pair}
use Rattle.rpds_lines.proofs.Printed.{PrintsRange}
use Rattle.rpds_lines.proofs.print.range.write_pairs.Given as goal

abbrev pub invariant-loop-key : goal.invariant-loop-key
invariant-loop-key g l = PrintsRange text_of_pair l.fn.pairs l.key-iterator (g.W.Write.contents l.fn.writer) (g.W.Write.contents l.writer)
