-- The stack of an iterator, and what its items have still to give.
use Rattle.std.specs.Prelude.{◌≡◌, ℕ, ◌<◌, ◌≤◌, Option, Some, None, List, [], ◌∷◌, ◌++◌, length, take, reverse}

-- the items at the first places, the last of them on top
abbrev pub stacked : {X : Type 0} → Option (List X) → ℕ → List X
stacked None len = []
stacked (Some places) len = reverse (take len places)

-- there are n places, or none yet and nothing on the stack
abbrev pub HasPlaces : {X : Type 0} → ℕ → Option (List X) → ℕ → Type 0
HasPlaces n None len = len ≡ 0
HasPlaces n (Some places) len = (length places ≡ n) × (len ≤ n)

-- the n places of the low part are in use before one of the high part is
abbrev pub IsFilled : {X : Type 0} → ℕ → List X → List X → Type 0
IsFilled n low high = 0 < length high → length low ≡ n

-- what the items have to give, that on top first
abbrev pub from_top : {X Y : Type 0} → (X → List Y) → List X → List Y
from_top f [] = []
from_top f (x ∷ xs) = f x ++ from_top f xs

-- each item has the room that it needs above those below it, whose number `Fits` is given
abbrev pub HasRoom : {X : Type 0} → (ℕ → X → Type 0) → List X → Type 0
HasRoom Fits [] = Unit {0}
HasRoom Fits (x ∷ xs) = Fits (length xs) x × HasRoom Fits xs
