-- Items of which no two are equal.
use Rattle.std.specs.Prelude.{ℕ, Bool, if◌then◌else◌, List, [], ◌∷◌, ◌++◌, Option, is_some}
use Rattle.std.specs.List.{position}

module _ {T : Type 0} (eq : T → T → Bool) where
  -- the first place of an item that is equal to x
  abbrev pub place_of : T → List T → Option ℕ
  place_of x items = position (λ item. eq item x) items

  -- the items, with x behind them where none is equal to it
  abbrev pub with_item : T → List T → List T
  with_item x items = if is_some (place_of x items) then items else items ++ x ∷ []
