-- What is kept of a line that comes in pieces.
use Rattle.std.specs.Prelude.{◌≡◌, ◌<◌, ◌⊎◌, ◌||◌, ℕ, nat_eq, Bool, false, List, [], ◌++◌, codes, length}
use Rattle.std.specs.List.{starts_with}
use Rattle.rpds_lines.specs.Lines.{LacksLineFeed}

-- The bytes begin as a line does that has items to its end.
abbrev pub begins_list : List ℕ → Bool
begins_list bytes = starts_with nat_eq bytes (codes "extend ") || starts_with nat_eq bytes (codes "sorted ")

-- The bytes are more than a line of the grammar has, unless it has items to its end, and they don't begin as such a line.
abbrev pub IsTooLong : List ℕ → Type 0
IsTooLong bytes = (127 < length bytes) × (begins_list bytes ≡ false)

-- No more than 128 bytes, unless they begin as a line does that has items to its end.
abbrev pub IsBounded : List ℕ → Type 0
IsBounded bytes = begins_list bytes ≡ false → length bytes < 129

-- The bytes that are kept stand for a line: they are all of it, or the beginning of one that is too long.
pub record StandsFor (kept line : List ℕ) : Type 0 where
  pub skipped : List ℕ
  pub whole : line ≡ kept ++ skipped
  pub unbroken : LacksLineFeed line
  pub cause : (skipped ≡ []) ⊎ IsTooLong kept
