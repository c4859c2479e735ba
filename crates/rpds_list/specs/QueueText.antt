-- How queues are printed.
use Rattle.std.specs.Prelude.{ℕ, List, [], Option, Some, codes}
use Rattle.std.specs.Fmt.{◌++?◌, debug_items}

-- the texts of the items, the front first, with a comma and a space between them, in `Queue(` and `)`
abbrev pub queue_text : {X : Type 0} → (X → Option (List ℕ)) → List X → Option (List ℕ)
queue_text text xs = Some (codes "Queue(") ++? debug_items text [] xs ++? Some (codes ")")
