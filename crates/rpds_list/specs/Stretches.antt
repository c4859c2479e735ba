-- What a stack of stretches of a chain holds.
use Rattle.std.specs.Prelude.{ℕ, ◌-◌, ◌^◌, ◌<◌, ◌≤◌, List, [], ◌∷◌, ◌++◌, length, take}
use Rattle.std.specs.Borrow.{Bor}
use Rattle.rpds_list.specs.declared.cells.Link.{Link}
use Rattle.rpds_list.specs.Chain.{items}

-- the items of a stretch, which is a chain and how many of its first cells count
abbrev pub items_of : {T A : Type 0} → Bor (Link T A) × ℕ → List T
items_of s = take s.1 (items s.0.now)

-- a stretch of some cells, which can be halved until the last of 64 places is taken
abbrev pub Fits : {T A : Type 0} → ℕ → Bor (Link T A) × ℕ → Type 0
Fits place s = (0 < s.1) × (s.1 ≤ length (items s.0.now)) × (s.1 ≤ 2 ^ (64 - place))

-- what the items of a stack have to give to an iterator that goes backwards, that on top last
abbrev pub to_top : {X Y : Type 0} → (X → List Y) → List X → List Y
to_top f [] = []
to_top f (x ∷ xs) = to_top f xs ++ f x
