-- How sets are printed.
use Rattle.std.specs.Prelude.{ℕ, List, [], Option, Some, codes}
use Rattle.std.specs.Fmt.{◌++?◌, debug_items}

-- the texts of the members, with a comma and a space between them, in braces
abbrev pub set_text : {T : Type 0} → (T → Option (List ℕ)) → List T → Option (List ℕ)
set_text text members = Some (codes "{") ++? debug_items text [] members ++? Some (codes "}")
