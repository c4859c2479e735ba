-- A row of pointers.
use Rattle.std.specs.Prelude.{List, [], ◌∷◌}
use Rattle.std.specs.declared.rc.Rc.{Rc}

-- what the pointers point to
abbrev pub behind : {X A : Type 0} → List (Rc X A) → List X
behind [] = []
behind (rc ∷ rcs) = rc.value ∷ behind rcs
