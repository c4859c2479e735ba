use Rattle.std.proofs.Common.{◌↔◌, length}
use Rattle.rpds_lines.specs.Grammar.Items.{AreNumbers}
use Rattle.rpds_lines.proofs.parse.command.are_numbers.Given as goal

abbrev pub invariant-loop-word : goal.invariant-loop-word
invariant-loop-word l = AreNumbers l.initial.words ↔ AreNumbers l.words

abbrev pub decreases-loop-word : goal.decreases-loop-word
decreases-loop-word l = length l.words
