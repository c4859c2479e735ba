-- The numbers of ids.
use Rattle.std.specs.Prelude.{ℕ}
use Rattle.rpds_arena.specs.declared.arena.Id.{Id}

-- how many items were put in before its item
abbrev pub number_of : {K : Type 0} → Id K → ℕ
number_of id = id.number
