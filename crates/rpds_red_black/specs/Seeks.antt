-- Where a change lies in a tree, told at one node after another: what is looked for in a node's tree lies at the node's own pair, or
-- in one of its sides.
use Rattle.std.specs.Prelude.{◌≡◌, ◌+◌, ◌<◌, ◌≤◌, List, ◌∷◌, ◌++◌, Option, Some, length}
use Rattle.rpds_red_black.specs.TreeNode.{pairs_of, pair_of}
use Rattle.rpds_red_black.specs.declared.seek.Aim.{Aim}
use Rattle.rpds_red_black.specs.declared.seek.Aim.TheVariants.{Here, Left, Right}
use Rattle.rpds_red_black.specs.declared.seek.At.{At}
use Rattle.rpds_red_black.specs.declared.seek.Gap.{Gap}
use Rattle.rpds_red_black.specs.declared.tree.Node.{Node}

-- a place for a pair p, told at a node: p comes into the place of the node's pair, or into a side
abbrev pub IsPlacedBy : {S K V A : Type 0} → (S → List (K × V) → Type 0) → (S → K × V → List (K × V) → List (K × V)) → S → K × V → Node K V A → Aim S → Type 0
IsPlacedBy ready placed s p n Here = placed s p (pairs_of n) ≡ n.left.entries ++ p ∷ n.right.entries
IsPlacedBy ready placed s p n (Left t) = ready t n.left.entries × (placed s p (pairs_of n) ≡ placed t p n.left.entries ++ pair_of n.entry.value ∷ n.right.entries)
IsPlacedBy ready placed s p n (Right t) = ready t n.right.entries × (placed s p (pairs_of n) ≡ n.left.entries ++ pair_of n.entry.value ∷ placed t p n.right.entries)

-- what a look finds of a list: the pairs before it, the one at it, if there is one, and those after it
pub record Looks (S K V : Type 0) : Type 0 where
  pub before : S → List (K × V) → List (K × V)
  pub found : S → List (K × V) → Option (K × V)
  pub after : S → List (K × V) → List (K × V)

-- the same of a look told at a node
abbrev pub IsSoughtBy : {S K V A : Type 0} → (S → List (K × V) → Type 0) → Looks S K V → S → Node K V A → Aim S → Type 0
IsSoughtBy ready w s n Here = (w.before s (pairs_of n) ≡ n.left.entries) × (w.found s (pairs_of n) ≡ Some (pair_of n.entry.value)) × (w.after s (pairs_of n) ≡ n.right.entries)
IsSoughtBy ready w s n (Left t) = ready t n.left.entries × (w.before s (pairs_of n) ≡ w.before t n.left.entries) × (w.found s (pairs_of n) ≡ w.found t n.left.entries) × (w.after s (pairs_of n) ≡ w.after t n.left.entries ++ pair_of n.entry.value ∷ n.right.entries)
IsSoughtBy ready w s n (Right t) = ready t n.right.entries × (w.before s (pairs_of n) ≡ n.left.entries ++ pair_of n.entry.value ∷ w.before t n.right.entries) × (w.found s (pairs_of n) ≡ w.found t n.right.entries) × (w.after s (pairs_of n) ≡ w.after t n.right.entries)

-- a gap and a position, told at a node
abbrev pub IsGapAt : {K V A : Type 0} → Gap → Node K V A → Aim Gap → Type 0
IsGapAt s n Here = ⊥
IsGapAt s n (Left t) = (s.position ≡ t.position) × (t.size ≡ length n.left.entries) × (t.position ≤ t.size)
IsGapAt s n (Right t) = (s.position ≡ length n.left.entries + 1 + t.position) × (t.size ≡ length n.right.entries) × (t.position ≤ t.size)

abbrev pub IsAt : {K V A : Type 0} → At → Node K V A → Aim At → Type 0
IsAt s n Here = s.position ≡ length n.left.entries
IsAt s n (Left t) = (s.position ≡ t.position) × (t.size ≡ length n.left.entries) × (t.position < t.size)
IsAt s n (Right t) = (s.position ≡ length n.left.entries + 1 + t.position) × (t.size ≡ length n.right.entries) × (t.position < t.size)
