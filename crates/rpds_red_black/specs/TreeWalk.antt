-- What a walk from one end of a tree has still to give.
use Rattle.std.specs.Prelude.{◌≡◌, ℕ, ◌+◌, ◌<◌, ◌≤◌, Bool, true, false, Option, Some, None, List, [], ◌∷◌, length}
use Rattle.std.specs.Borrow.{Bor}
use Rattle.std.specs.declared.cmp.Ordering.{Ordering}
pub use Rattle.rpds_core.specs.DoubleEnded.{along}
use Rattle.rpds_core.specs.WalkStack.{HasRoom}
use Rattle.rpds_red_black.specs.Shape.{Shape}
use Rattle.rpds_red_black.specs.TreeNode.{pair_of}
use Rattle.rpds_red_black.specs.declared.tree.Node.{Node}

-- how what a form is seen as compares to a key in the order of a walk, from the back or from the front: `order` is how it compares to a
-- key, and `turned` how a key compares to it
abbrev pub form_along : {S K : Type 0} → Bool → (S → K → Ordering) → (K → S → Ordering) → S → K → Ordering
form_along true order turned s k = turned k s
form_along false order turned s k = order s k

-- two keys, compared in that order
abbrev pub cmp_along : {K : Type 0} → Bool → (K → K → Ordering) → K → K → Ordering
cmp_along back R a b = form_along back R R a b

-- the second one for `true`
abbrev pub either : {T : Type 0} → Bool → T → T → T
either true a b = b
either false a b = a

-- the side of a node that a walk gives before the node's own pair
abbrev pub near_side : {K V A : Type 0} → Bool → Node K V A → Shape K V
near_side back n = either back n.left n.right

-- the other side
abbrev pub far_side : {K V A : Type 0} → Bool → Node K V A → Shape K V
far_side back n = either back n.right n.left

-- what a node on the stack has still to give: its own pair and those of its far side
abbrev pub given : {K V A : Type 0} → Bool → Bor (Node K V A) → List (K × V)
given back n = pair_of n.now.entry.value ∷ along back (far_side back n.now).entries

-- the paths of its far side fit between its place and the 128th
abbrev pub Fits : {K V A : Type 0} → Bool → ℕ → Bor (Node K V A) → Type 0
Fits back place n = place + (far_side back n.now).depth < 128

-- there are places for the paths of the tree that comes next, above the nodes on the stack
pub record HasPlaces {K V A : Type 0} (back : Bool) (rest : Shape K V) (stack : List (Bor (Node K V A))) : Type 0 where
  pub room : HasRoom (Fits back) stack
  pub fits : length stack + rest.depth ≤ 128

-- the nodes to come: the next one, and those on the stack
abbrev pub upcoming : {X : Type 0} → Option X → List X → List X
upcoming None stack = []
upcoming (Some next) stack = next ∷ stack

-- each of them has the room that it needs, and where none is next, none is on the stack
abbrev pub IsUpcoming : {X : Type 0} → (ℕ → X → Type 0) → Option X → List X → Type 0
IsUpcoming Room None stack = stack ≡ []
IsUpcoming Room (Some next) stack = HasRoom Room (next ∷ stack)
