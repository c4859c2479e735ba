-- What a walk from one end of a vector has still to give.
use Rattle.std.specs.Prelude.{◌≡◌, ℕ, ◌-◌, ◌≤◌, Bool, true, false, List, [], ◌∷◌, ◌++◌, drop, length, reverse, take}
use Rattle.std.specs.List.{All}
use Rattle.rpds_core.specs.DoubleEnded.{along}
use Rattle.rpds_vector.specs.Trie.{Trie}

-- the last n items that a walk gives, which lie ahead of it
abbrev pub ahead : {T : Type 0} → Bool → ℕ → List T → List T
ahead true n items = reverse (take n items)
ahead false n items = drop (length items - n) items

-- the items of nodes that a walk gives one after another
abbrev pub items_along : {T : Type 0} → Bool → List (Trie T) → List T
items_along back [] = []
items_along back (node ∷ nodes) = along back node.items ++ items_along back nodes

-- nodes none of which is higher
abbrev pub AreLow : {T : Type 0} → ℕ → List (Trie T) → Type 0
AreLow most nodes = All (λ node. node.height ≤ most) nodes

-- a row that comes first in another
abbrev pub IsPrefix : {T : Type 0} → List T → List T → Type 0
IsPrefix {T} row items = (rest : List T) × (items ≡ row ++ rest)
