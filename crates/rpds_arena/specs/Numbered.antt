-- The ids of the items of an interner.
use Rattle.std.specs.Prelude.{◌≡◌, ℕ, Bool, false, List, Some}
use Rattle.std.specs.List.{IsDistinct}
use Rattle.std.specs.Option.{option_map}
use Rattle.rpds_arena.specs.Ids.{number_of}
use Rattle.rpds_arena.specs.Interned.{place_of}
use Rattle.rpds_arena.specs.declared.arena.Id.{Id}
use Rattle.rpds_hash.specs.HashedMap.{find}

-- no two items are equal, and a value has the id of its place. With strays, a value that has no place may have an id, too
pub record IsNumbered {T K : Type 0} (eq : T → T → Bool) (has_strays : Bool) (items : List T) (ids : List (T × Id K)) : Type 0 where
  pub distinct : IsDistinct eq items
  pub placed : (x : T) (n : ℕ) → place_of eq x items ≡ Some n → option_map (λ p. number_of p.1) (find eq x ids) ≡ Some n
  pub places : has_strays ≡ false → (x : T) → option_map (λ p. number_of p.1) (find eq x ids) ≡ place_of eq x items
