-- What a chain of cells holds.
use Rattle.std.specs.Prelude.{List, [], ◌∷◌, Option, None, Some}
use Rattle.rpds_list.specs.declared.cells.Link.{Link, End, More'}

-- the items of a chain, the first one first
abbrev pub items : {T A : Type 0} → Link T A → List T
items End = []
items (More' place value next) = value.value ∷ items next

-- the last of x and xs
abbrev pub last_or : {T : Type 0} → T → List T → T
last_or x [] = x
last_or x (y ∷ ys) = last_or y ys

-- the last item, if there is one
abbrev pub last_of : {T : Type 0} → List T → Option T
last_of [] = None
last_of (x ∷ xs) = Some (last_or x xs)
