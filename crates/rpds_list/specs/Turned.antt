-- A chain that is turned round in its own cells.
use Rattle.std.specs.Prelude.{ℕ, ◌+◌, ◌-◌, ◌≤◌, ◌≡◌, List, ◌++◌, length, take, drop, reverse}

-- `kept` cells in all are turned round. `xs` is what those from the place `at` on have, and `held` what stands beside the cells:
-- before them the items of the front half as far as they were taken out, and `ys` and `rest` are both afterwards. Before them
-- lie the first of all in turn, and they have the others
pub record IsTurned {T : Type 0} (kept at : ℕ) (held xs rest ys : List T) : Type 0 where
  pub enough : kept ≤ at + length xs
  pub beside : rest ≡ take at (reverse (take at held ++ take (kept - at) xs)) ++ drop at held
  pub cells : ys ≡ drop at (reverse (take at held ++ take (kept - at) xs))

-- the first `left` of `xs`, what the cells of the back half have, change places with the first of `held`, each in turn; `ys` and
-- `rest` are both afterwards
pub record IsSwapped {T : Type 0} (left : ℕ) (held xs rest ys : List T) : Type 0 where
  pub enough : left ≤ length xs
  pub beside : rest ≡ reverse (take left xs) ++ drop left held
  pub cells : ys ≡ reverse (take left held)
