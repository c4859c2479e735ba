-- A node seen from its near side.
use Rattle.rpds_red_black.specs.TreeWalk.{either}
use Rattle.rpds_red_black.proofs.Words.{◌≡◌, ℕ, ◌+◌, Bool, true, false, List, ◌∷◌, length, sym, ap, ◌∙◌, append_assoc, Rc, Entry, Color, Red, Black, Branch, Node}
use Rattle.rpds_red_black.proofs.Words.{Shape, blackness, IsSound, MayStandOver, faced, node_of, joined, counted, pairs_of, shape_of, pair_of, IsEven, IsWhole}
use Rattle.rpds_red_black.proofs.Words.{Painted, arith}
use Rattle.rpds_red_black.proofs.Insertion.{whole}

pub joined_assoc : {T : Type 0} (r : Bool) (a b c : List T) (x y : T) → joined r (joined r a x b) y c ≡ joined r a x (joined r b y c)
joined_assoc r a b c x y = grind (arith, append_assoc a (x ∷ b) (y ∷ c), append_assoc c (y ∷ b) (x ∷ a))

-- a middle that is given to both sides
pub joined_turned : {T : Type 0} (r : Bool) (a b c d : List T) (x y z : T) → joined r (joined r a x b) y (joined r c z d) ≡ joined r (joined r a x (joined r b y c)) z d
joined_turned r a b c d x y z = sym (joined_assoc r (joined r a x b) c d y z) ∙ ap (λ t. joined r t z d) (joined_assoc r a b c x y)

pub under_black : {K V : Type 0} (c : Color) (s : Shape K V) → c ≡ Black → MayStandOver c s
under_black c s black = rw black tt

pub red_over : {K V : Type 0} (c : Color) (s : Shape K V) → c ≡ Red → MayStandOver c s → s.color ≡ Black
red_over c s red h = rw red at h

-- the sides of a node with a color, and the node with another one
abbrev pub near_part : {K V A : Type 0} → Bool → Painted K V A → Shape K V
near_part r n = either r n.left n.right

abbrev pub far_part : {K V A : Type 0} → Bool → Painted K V A → Shape K V
far_part r n = either r n.right n.left

abbrev pub with_near_part : {K V A : Type 0} → Bool → Painted K V A → Shape K V → Painted K V A
with_near_part r n s = node_of r n.color s n.entry (far_part r n)

abbrev pub with_far_part : {K V A : Type 0} → Bool → Painted K V A → Shape K V → Painted K V A
with_far_part r n s = node_of r n.color (near_part r n) n.entry s

module _ {K V A : Type 0} where
  pub joined_of : (r : Bool) (c : Color) (near : Shape K V) (e : Rc (Entry K V) A) (far : Shape K V) → (shape_of (node_of r c near e far)).entries ≡ joined r near.entries (pair_of e.value) far.entries
  joined_of r c near e far = grind arith

  pub color_of : (r : Bool) (c : Color) (near : Shape K V) (e : Rc (Entry K V) A) (far : Shape K V) → (shape_of (node_of r c near e far)).color ≡ c
  color_of r c near e far = grind arith

  pub black_of : (r : Bool) (c : Color) (near : Shape K V) (e : Rc (Entry K V) A) (far : Shape K V) → near.black ≡ far.black → (shape_of (node_of r c near e far)).black ≡ near.black + blackness c
  black_of r c near e far level = grind arith

  pub even_of : (r : Bool) (c : Color) (near : Shape K V) (e : Rc (Entry K V) A) (far : Shape K V) → near.black ≡ far.black → MayStandOver c near → MayStandOver c far → IsEven (node_of r c near e far)
  even_of r c near e far level over_near over_far = grind arith

  -- a node's own parts
  pub parts : (r : Bool) (n : Painted K V A) → node_of r n.color (near_part r n) n.entry (far_part r n) ≡ n
  parts r n = grind arith

  pub near_of : (r : Bool) (c : Color) (near : Shape K V) (e : Rc (Entry K V) A) (far : Shape K V) → near_part r (node_of r c near e far) ≡ near
  near_of r c near e far = grind arith

  pub far_of : (r : Bool) (c : Color) (near : Shape K V) (e : Rc (Entry K V) A) (far : Shape K V) → far_part r (node_of r c near e far) ≡ far
  far_of r c near e far = grind arith

  pub entry_of : (r : Bool) (c : Color) (near : Shape K V) (e : Rc (Entry K V) A) (far : Shape K V) → (node_of r c near e far).entry ≡ e
  entry_of r c near e far = grind arith

  -- a node that got its own side back
  pub with_near_same : (r : Bool) (n : Painted K V A) (s : Shape K V) → s ≡ near_part r n → with_near_part r n s ≡ n
  with_near_same r n s is = ap (λ t. with_near_part r n t) is ∙ parts r n

  pub with_far_same : (r : Bool) (n : Painted K V A) (s : Shape K V) → s ≡ far_part r n → with_far_part r n s ≡ n
  with_far_same r n s is = ap (λ t. with_far_part r n t) is ∙ parts r n

  pub even_red : (r : Bool) (n : Painted K V A) → IsEven n → (near_part r n).color ≡ Black → (far_part r n).color ≡ Black → IsEven (record n { color = Red })
  even_red r n even x y = grind arith

  -- an even node's sides
  pub level_sides : (r : Bool) (n : Painted K V A) → IsEven n → (near_part r n).black ≡ (far_part r n).black
  level_sides r n even = grind arith

  pub over_near : (r : Bool) (n : Painted K V A) → IsEven n → MayStandOver n.color (near_part r n)
  over_near r n even = grind arith

  pub over_far : (r : Bool) (n : Painted K V A) → IsEven n → MayStandOver n.color (far_part r n)
  over_far r n even = grind arith

  pub shape_joined : (r : Bool) (n : Painted K V A) → (shape_of n).entries ≡ joined r (near_part r n).entries (pair_of n.entry.value) (far_part r n).entries
  shape_joined r n = grind arith

  pub shape_black : (r : Bool) (n : Painted K V A) → IsEven n → (shape_of n).black ≡ (near_part r n).black + blackness n.color
  shape_black r n even = grind arith

  pub sound_near : (r : Bool) (n : Painted K V A) → IsSound n.left → IsSound n.right → IsSound (near_part r n)
  sound_near r n left right = grind arith

  pub sound_far : (r : Bool) (n : Painted K V A) → IsSound n.left → IsSound n.right → IsSound (far_part r n)
  sound_far r n left right = grind arith

  -- a tree whose root has these parts
  pub whole_of : (r : Bool) (root : Rc (Node K V A) A) (c : Color) (count : ℕ) (near : Shape K V) (e : Rc (Entry K V) A) (far : Shape K V) → root.value ≡ faced r near e far → IsEven (node_of r c near e far) → count ≡ counted (length (pairs_of (faced r near e far))) → IsSound near → IsSound far → IsWhole (Branch c count root)
  whole_of false root c count near e far is even size sound_near sound_far = whole c count root (faced false near e far) is even size sound_near sound_far
  whole_of true root c count near e far is even size sound_near sound_far = whole c count root (faced true near e far) is even size sound_far sound_near

  -- the parts of an even node
  module _ (r : Bool) (c : Color) (near : Shape K V) (e : Rc (Entry K V) A) (far : Shape K V) where
    pub level_of : IsEven (node_of r c near e far) → near.black ≡ far.black
    level_of even = grind (arith, even)

    pub near_under : IsEven (node_of r c near e far) → MayStandOver c near
    near_under even = grind (arith, even)

    pub far_under : IsEven (node_of r c near e far) → MayStandOver c far
    far_under even = grind (arith, even)
