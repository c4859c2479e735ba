-- A node, told from the side that a change goes down: its left one, or its right one.
use Rattle.std.specs.Prelude.{Bool, true, false, List, ◌∷◌, ◌++◌}
use Rattle.std.specs.declared.rc.Rc.{Rc}
use Rattle.rpds_core.specs.declared.map.entry.Entry.{Entry}
use Rattle.rpds_red_black.specs.Shape.{Shape}
use Rattle.rpds_red_black.specs.TreeNode.{painted, Painted}
use Rattle.rpds_red_black.specs.TreeWalk.{near_side, far_side}
use Rattle.rpds_red_black.specs.declared.tree.Color.{Color}
use Rattle.rpds_red_black.specs.declared.tree.Node.{Node}
use Rattle.rpds_red_black.specs.declared.rotation.Side.{Side}
use Rattle.rpds_red_black.specs.declared.rotation.Side.TheVariants.{Left, Right}

abbrev pub is_right : Side → Bool
is_right Left = false
is_right Right = true

-- the node of these parts, whose near side is the right one for `true`
abbrev pub faced : {K V A : Type 0} → Bool → Shape K V → Rc (Entry K V) A → Shape K V → Node K V A
faced false near entry far = record { left = near; entry = entry; right = far }
faced true near entry far = record { left = far; entry = entry; right = near }

-- the same, with its color
abbrev pub node_of : {K V A : Type 0} → Bool → Color → Shape K V → Rc (Entry K V) A → Shape K V → Painted K V A
node_of right color near entry far = painted color (faced right near entry far)

-- its pairs in order, from those of its sides
abbrev pub joined : {T : Type 0} → Bool → List T → T → List T → List T
joined false near pair far = near ++ pair ∷ far
joined true near pair far = far ++ pair ∷ near

-- a node with another tree on its near side
abbrev pub with_near : {K V A : Type 0} → Bool → Node K V A → Shape K V → Node K V A
with_near right n s = faced right s n.entry (far_side right n)

-- and on its far side
abbrev pub with_far : {K V A : Type 0} → Bool → Node K V A → Shape K V → Node K V A
with_far right n s = faced right (near_side right n) n.entry s
