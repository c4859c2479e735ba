-- An iterator that is seen as the list of what it has left.
use Rattle.std.specs.Prelude.{Option, List}
use Rattle.std.specs.Iterator.{YieldsFirstBy}

-- each call takes the first of what is left, as `see` reads it, and gives None once nothing is left
abbrev pub ShowsList : {S A B : Type 0} → (S → Option A → S → Type 0) → (A → B) → (S → List B) → Type 0
ShowsList {S} {A} gives see rest = (old : S) (result : Option A) (new : S) → gives old result new → YieldsFirstBy see rest old result new
