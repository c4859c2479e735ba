-- How many nodes a look-up visits, in worked rows that tests meet.
use Rattle.std.specs.Prelude.{◌≡◌, ℕ, ◌+◌, length}
use Rattle.rpds_core.specs.declared.steps.Steps.{Steps}
use Rattle.rpds_vector.specs.VectorContents.{Contents}

module _ {T : Type 0} (v : Contents T) (old new : Steps) where
  -- at `bits` bits, among `len` items, `nodes` nodes were visited
  abbrev pub VisitsAmong : ℕ → ℕ → ℕ → Type 0
  VisitsAmong bits len nodes = v.bits ≡ bits → length v.items ≡ len → new.visited ≡ old.visited + nodes

  abbrev pub VisitsRows : Type 0
  VisitsRows =
      VisitsAmong 1 1 1
      × VisitsAmong 1 2 1
      × VisitsAmong 1 3 2
      × VisitsAmong 1 4 2
      × VisitsAmong 1 5 3
      × VisitsAmong 1 1025 11
      × VisitsAmong 2 16 2
      × VisitsAmong 2 17 3
      × VisitsAmong 5 32 1
      × VisitsAmong 5 33 2
      × VisitsAmong 5 1024 2
      × VisitsAmong 5 1025 3
      × VisitsAmong 63 2 1
      × VisitsAmong 63 1000 1
