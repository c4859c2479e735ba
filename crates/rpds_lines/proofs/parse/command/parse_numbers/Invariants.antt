use Rattle.std.proofs.Common.{length}
use Rattle.rpds_lines.specs.Grammar.Items.{pieces_of_number}
use Rattle.rpds_lines.proofs.Items.{AreBegun}
use Rattle.rpds_lines.proofs.parse.command.parse_numbers.Given as goal

abbrev pub invariant-loop-word : goal.invariant-loop-word
invariant-loop-word g l = AreBegun pieces_of_number l.numbers.items l.initial.words l.words

abbrev pub decreases-loop-word : goal.decreases-loop-word
decreases-loop-word g l = length l.words
