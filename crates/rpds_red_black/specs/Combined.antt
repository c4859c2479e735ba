-- Trees that are put over combined sides, and combined trees.
use Rattle.std.specs.Prelude.{◌≡◌, ◌≤◌, ℕ, ◌+◌, ◌*◌, max, List, ◌++◌, Option, Some, None, IsSome, length}
use Rattle.std.specs.declared.cmp.Ordering.{Ordering}
use Rattle.rpds_red_black.specs.Cuts.{items_of, IsCombined}
use Rattle.rpds_red_black.specs.Join.{rank, redness}
use Rattle.rpds_red_black.specs.Logarithm.{most_levels}
use Rattle.rpds_red_black.specs.Shape.{Shape, blackness}
use Rattle.rpds_red_black.specs.declared.combine.Kept.{Kept}
use Rattle.rpds_red_black.specs.declared.tree.Color.{Color}

-- a tree, or the one that came in its place
abbrev pub or_same : {K V : Type 0} → Shape K V → Option (Shape K V) → Shape K V
or_same s None = s
or_same s (Some t) = t

-- the rank of a tree whose root has the color, over sides of that many black nodes
abbrev pub rank_over : Color → ℕ → ℕ
rank_over color below = 2 * (below + blackness color) + redness color

-- both trees in one, with a pair between them, if there is one: hardly higher than the higher one, or no higher than `most`
pub record IsLinked {K V : Type 0} (middle : Option (K × V)) (most : ℕ) (a b t : Shape K V) : Type 0 where
  pub pairs : t.entries ≡ a.entries ++ (items_of middle ++ b.entries)
  pub over_a : a.black ≤ t.black
  pub over_b : IsSome middle → b.black ≤ t.black
  pub low : rank t ≤ max (max (rank a) (rank b) + 1) most

-- what is kept of the entries of a tree and of those of a list. Its height tells little of how many were in the list
pub record IsCombination {K V : Type 0} (R : K → K → Ordering) (kept : Kept) (s : Shape K V) (cs : List (K × V)) (t : Shape K V) : Type 0 where
  pub combined : IsCombined R kept s.entries cs t.entries
  pub high : s.black ≤ t.black + length cs
  pub low : rank t ≤ rank s + most_levels (length cs)
