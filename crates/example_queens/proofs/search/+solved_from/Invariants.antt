use Rattle.std.proofs.Common.{ℕ, ◌-◌, ◌<◌, ◌∷◌, length}
use Rattle.example_queens.specs.Queens.{IsDeadEnd}
use Rattle.example_queens.proofs.search.+solved_from.Given as goal

abbrev pub invariant-loop-column : goal.invariant-loop-column
invariant-loop-column l = (earlier : ℕ) → earlier < l.column → IsDeadEnd l.size (earlier ∷ l.board)

abbrev pub decreases-solved_from : goal.decreases-solved_from
decreases-solved_from l = l.size - length l.board.now
