-- What the items of an arena come to.
use Rattle.std.specs.Prelude.{List, [], ◌∷◌, ◌++◌}
use Rattle.std.specs.List.{fold}

-- what each item comes to, in their order: f makes it of what the older ones came to, and of the item
abbrev pub folded : {T R : Type 0} → (List R → T → R) → List T → List R
folded f items = fold (λ older x. older ++ f older x ∷ []) [] items
