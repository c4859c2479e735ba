-- What a value holds.
use Rattle.std.specs.Prelude.{ℕ, Bool, false, ◌||◌, eqb, List, [], ◌∷◌}
use Rattle.example_nested.specs.declared.json.Json.{Json, Number, Array}
use Rattle.example_nested.specs.declared.json.Items.{Items, End, More'}

-- the items in their order
abbrev pub items_of : Items → List Json
items_of End = []
items_of (More' place first rest) = first ∷ items_of rest

-- whether a number stands in a value, however deep
unfoldable mutual
  pub holds_number : ℕ → Json → Bool
  holds_number x (Number n) = eqb n x
  holds_number x (Array items) = holds_below x items

  pub holds_below : ℕ → Items → Bool
  holds_below x End = false
  holds_below x (More' place first rest) = holds_number x first || holds_below x rest
