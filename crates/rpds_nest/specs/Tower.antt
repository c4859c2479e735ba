-- So many levels below a row: each has rows of its items as the items of the level above it.
use Rattle.std.specs.Prelude.{◌≡◌, ℕ, zero, suc, List, length}
use Rattle.rpds_nest.specs.declared.nest_vector.level.Level.{Level}
use Rattle.rpds_nest.specs.Level.{Row, contents, level_items, IsRow, IsLevel}

abbrev pub Tower : ℕ → Type 0 → Type 0 → Type 0
Tower zero T A = Row T A
Tower (suc n) T A = Level (Tower n (Row T A) A) T A

abbrev pub tower_items : (A : Type 0) (n : ℕ) (T : Type 0) → Tower n T A → List T
tower_items A zero T t = contents t
tower_items A (suc n) T t = level_items (tower_items A n (Row T A)) t

abbrev pub IsTower : (A : Type 0) (n : ℕ) (T : Type 0) → Tower n T A → Type 0
IsTower A zero T t = IsRow t
IsTower A (suc n) T t = IsLevel (tower_items A n (Row T A)) (IsTower A n (Row T A)) t

-- a vector of four levels below a row, and its length
pub record IsVector (A T : Type 0) (t : Tower 4 T A) (len : ℕ) : Type 0 where
  pub sound : IsTower A 4 T t
  pub counted : len ≡ length (tower_items A 4 T t)
