-- Queens on a board, one in each row: their columns, that in the last row first.
use Rattle.std.specs.Prelude.{◌≡◌, ◌≢◌, ℕ, ◌+◌, ◌-◌, ◌<◌, List, ◌++◌, All, length, slice_index}

-- a queen in the first column and one in the second, so many rows apart, stand on no line together
pub record AreApart (rows first second : ℕ) : Type 0 where
  pub column : first ≢ second
  pub falling : first + rows ≢ second
  pub rising : second + rows ≢ first

-- no two attack each other
abbrev pub ArePeaceful : List ℕ → Type 0
ArePeaceful queens = (i j : ℕ) → i < j → j < length queens →
    AreApart (j - i) (slice_index queens i) (slice_index queens j)

-- a queen in each row of a board, none of which attacks another
pub record IsSolution (size : ℕ) (queens : List ℕ) : Type 0 where
  pub rows : length queens ≡ size
  pub on_board : All (λ column. column < size) queens
  pub peaceful : ArePeaceful queens

-- there is no such board
abbrev pub IsUnsolvable : ℕ → Type 0
IsUnsolvable size = (queens : List ℕ) → ¬ IsSolution size queens

-- a solution with these queens in its first rows
pub record GoesOn (size : ℕ) (first queens : List ℕ) : Type 0 where
  pub solution : IsSolution size queens
  pub from : (more : List ℕ) × (queens ≡ more ++ first)

-- no solution has these queens in its first rows
abbrev pub IsDeadEnd : ℕ → List ℕ → Type 0
IsDeadEnd size first = (queens : List ℕ) → ¬ GoesOn size first queens
