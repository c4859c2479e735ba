-- How stacks are printed.
use Rattle.std.specs.Prelude.{ℕ, List, [], Option, Some, codes}
use Rattle.std.specs.Fmt.{◌++?◌, debug_items}

-- the texts of the items, the one on top first, with a comma and a space between them, in `Stack(` and `)`
abbrev pub stack_text : {X : Type 0} → (X → Option (List ℕ)) → List X → Option (List ℕ)
stack_text text xs = Some (codes "Stack(") ++? debug_items text [] xs ++? Some (codes ")")
