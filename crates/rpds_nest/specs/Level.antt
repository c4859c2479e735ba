-- What a level is seen as.
use Rattle.std.specs.Prelude.{◌≡◌, ◌≤◌, List, [], ◌∷◌, ◌++◌, length, Vec}
use Rattle.std.specs.List.{flat_map}
use Rattle.std.specs.declared.rc.Rc.{Rc}
use Rattle.rpds_core.specs.Rows.{behind}
use Rattle.rpds_nest.specs.declared.nest_vector.level.Level.{Level}

abbrev pub Row : Type 0 → Type 0 → Type 0
Row T A = Vec (Rc T A) A

module _ {T A : Type 0} where
  -- what the pointers of a row point to
  abbrev pub contents : Row T A → List T
  contents row = behind row.items

  -- the items of rows, one row after another
  abbrev pub flat : List (Row T A) → List T
  flat rows = flat_map contents rows

  -- each row has 64 items
  abbrev pub AllFull : List (Row T A) → Type 0
  AllFull [] = Unit {0}
  AllFull (row ∷ rows) = (length (contents row) ≡ 64) × AllFull rows

  -- as a level, a row may have any number of items
  abbrev pub IsRow : Row T A → Type 0
  IsRow _ = Unit {0}

  module _ {R : Type 0} (rows_of : R → List (Row T A)) where
    -- the items of its full rows, and then those of its tail
    abbrev pub level_items : Level R T A → List T
    level_items l = flat (rows_of l.rows) ++ contents l.tail

    pub record IsLevel (Sound : R → Type 0) (l : Level R T A) : Type 0 where
      pub sound : Sound l.rows
      pub full : AllFull (rows_of l.rows)
      pub few : length (contents l.tail) ≤ 64
