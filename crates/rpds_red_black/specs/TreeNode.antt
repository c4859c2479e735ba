-- What a node is seen as, and what holds of it.
use Rattle.std.specs.Prelude.{◌≡◌, ℕ, ◌+◌, ◌%◌, ◌^◌, max, List, ◌∷◌, ◌++◌, length}
use Rattle.std.specs.declared.rc.Rc.{Rc}
use Rattle.rpds_core.specs.declared.map.entry.Entry.{Entry}
use Rattle.rpds_red_black.specs.Shape.{Shape, leaf, branch, IsSound, MayStandOver}
use Rattle.rpds_red_black.specs.declared.tree.Color.{Color}
use Rattle.rpds_red_black.specs.declared.tree.Color.TheVariants.{Red}
use Rattle.rpds_red_black.specs.declared.tree.Link.{Link}
use Rattle.rpds_red_black.specs.declared.tree.Link.TheVariants.{Leaf, Branch}
use Rattle.rpds_red_black.specs.declared.tree.Node.{Node}

abbrev pub pair_of : {K V : Type 0} → Entry K V → K × V
pair_of e = (e.key, e.value)

-- a node's pairs in order, and the number of nodes on its longest path
abbrev pub pairs_of : {K V A : Type 0} → Node K V A → List (K × V)
pairs_of n = n.left.entries ++ pair_of n.entry.value ∷ n.right.entries

abbrev pub depth_of : {K V A : Type 0} → Node K V A → ℕ
depth_of n = max n.left.depth n.right.depth + 1

-- a node with the color that its link holds
pub record Painted (K V A : Type 0) : Type 0 where
  pub color : Color
  pub left : Shape K V
  pub entry : Rc (Entry K V) A
  pub right : Shape K V

abbrev pub painted : {K V A : Type 0} → Color → Node K V A → Painted K V A
painted color n = record { color = color; left = n.left; entry = n.entry; right = n.right }

abbrev pub shape_of : {K V A : Type 0} → Painted K V A → Shape K V
shape_of n = branch n.color n.left (pair_of n.entry.value) n.right

abbrev pub shape_of_link : {K V A : Type 0} → Link K V A → Shape K V
shape_of_link Leaf = leaf
shape_of_link (Branch color count n) = shape_of (painted color n.value)

-- a number of pairs, as a link holds it
abbrev pub counted : ℕ → ℕ
counted n = n % 2 ^ 32

-- both sides have as many black nodes, and a red node has black children
pub record IsEven {K V A : Type 0} (n : Painted K V A) : Type 0 where
  pub level : n.left.black ≡ n.right.black
  pub left : MayStandOver n.color n.left
  pub right : MayStandOver n.color n.right

-- the sides of a link's node, and the count that the link holds
abbrev pub IsEvenLink : {K V A : Type 0} → Link K V A → Type 0
IsEvenLink Leaf = Unit {0}
IsEvenLink (Branch color count n) = IsEven (painted color n.value) × (count ≡ counted (length (pairs_of n.value)))

pub record IsWhole {K V A : Type 0} (root : Link K V A) : Type 0 where
  pub even : IsEvenLink root
  pub sound : IsSound (shape_of_link root)

-- m has the parts of n
pub record IsCopy {K V A : Type 0} (n m : Node K V A) : Type 0 where
  pub left : m.left ≡ n.left
  pub entry : m.entry.value ≡ n.entry.value
  pub right : m.right ≡ n.right

-- the node at a tree's root
pub record IsRoot {K V A : Type 0} (s : Shape K V) (n : Node K V A) : Type 0 where
  pub same : s ≡ shape_of (painted s.color n)
  pub even : IsEven (painted s.color n)

-- the same, where it is red
pub record IsRedRoot {K V A : Type 0} (s : Shape K V) (n : Node K V A) : Type 0 where
  pub same : s ≡ shape_of (painted Red n)
  pub even : IsEven (painted Red n)
