use Rattle.std.proofs.Common.{◌↔◌, length}
use Rattle.rpds_lines.specs.Grammar.Items.{ArePairs}
use Rattle.rpds_lines.proofs.parse.command.are_pairs.Given as goal

abbrev pub invariant-loop-words : goal.invariant-loop-words
invariant-loop-words l = ArePairs l.initial.words ↔ ArePairs l.words

abbrev pub decreases-loop-words : goal.decreases-loop-words
decreases-loop-words l = length l.words
