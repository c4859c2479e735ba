-- The lines on which queens stand, as ordered sets of numbers.
use Rattle.std.specs.Prelude.{◌≡◌, ℕ, ◌+◌, ◌-◌, ◌≤◌, List, [], ◌∷◌, length}
use Rattle.std.specs.Ordering.{nat_cmp}
use Rattle.rpds.specs.OrderedSet.{put_member}
use Rattle.example_queens.specs.Queens.{ArePeaceful}
use Rattle.example_queens.specs.declared.board.TheConstants.{MOST_ROWS}

-- the set of the queens' lines, where a queen's line is a function of its column and its row
abbrev pub lines : (ℕ → ℕ → ℕ) → List ℕ → List ℕ
lines line [] = []
lines line (column ∷ queens) = put_member nat_cmp (line column (length queens)) (lines line queens)

-- peaceful queens of a board, and the sets of their lines
pub record IsMarked (queens columns rising falling : List ℕ) : Type 0 where
  pub peaceful : ArePeaceful queens
  pub rows : length queens ≤ MOST_ROWS
  pub columns_are : columns ≡ lines (λ column row. column) queens
  pub rising_are : rising ≡ lines (λ column row. column + (MOST_ROWS - row)) queens
  pub falling_are : falling ≡ lines (λ column row. column + row) queens
