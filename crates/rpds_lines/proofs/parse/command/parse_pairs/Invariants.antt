use Rattle.std.proofs.Common.{length}
use Rattle.rpds_lines.specs.Grammar.Items.{pieces_of_pair}
use Rattle.rpds_lines.proofs.Items.{AreBegun}
use Rattle.rpds_lines.proofs.parse.command.parse_pairs.Given as goal

abbrev pub invariant-loop-words : goal.invariant-loop-words
invariant-loop-words g l = AreBegun pieces_of_pair l.pairs.items l.initial.words l.words

abbrev pub decreases-loop-words : goal.decreases-loop-words
decreases-loop-words g l = length l.words
