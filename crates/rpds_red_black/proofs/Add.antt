-- A node that took an entry on an empty side.
use Rattle.rpds_red_black.proofs.Words.{◌≡◌, ◌+◌, Bool, List, [], ◌∷◌, length, refl, sym, ap, ◌∙◌, arith, Added, AddedTaller, Red, Black, Link, Leaf, Branch, Side}
use Rattle.rpds_red_black.proofs.Words.{Rc, Entry, IsGrownTo, pair_of, shape_of_link, IsEven, Painted, Shape, leaf, branch, blackness, is_right, joined, node_of}
use Rattle.rpds_red_black.proofs.Growth.{grown_to, wider, length_joined, red_rises, red_rises_far}
use Rattle.rpds_red_black.proofs.Sides.{far_part, level_sides, near_part, over_far, parts, red_over, under_black, with_far_part, with_near_part}

-- a tree of no black nodes, whose root isn't red, is empty
bare : {K V A : Type 0} (root : Link K V A) (s : Shape K V) → shape_of_link root ≡ s → s.black ≡ 0 → s.color ≡ Black → s.entries ≡ []
bare Leaf s view none black = sym (ap (λ (s : Shape _ _). s.entries) view)
bare (Branch c count n) s view none black =
    absurd (omega (arith, ap (λ (s : Shape _ _). s.black) view, (ap blackness (ap (λ (s : Shape _ _). s.color) view ∙ black)), none))

-- of two pairs, either may be the one between the sides
either_between : {T : Type 0} (r : Bool) (p e : T) → joined r [] p (e ∷ []) ≡ joined r (p ∷ []) e []
either_between r p e = grind arith

-- a node with another far side and another entry
entered : {K V A : Type 0} (r : Bool) (n : Painted K V A) (e : Rc (Entry K V) A) (t : Shape K V) → record (with_far_part r n t) { entry = e } ≡ node_of r n.color (near_part r n) e t
entered r n e t = grind arith

module _ {K V A : Type 0} (side lean : Side) (n : Painted K V A) (even : IsEven n) (empty : near_part (is_right side) n ≡ leaf) (p : K × V) where
  abbrev pub r : Bool
  r = is_right side

  abbrev pub near : Shape K V
  near = near_part r n

  abbrev pub far : Shape K V
  far = far_part r n

  abbrev pub pairs : List (K × V)
  pairs = joined r (p ∷ []) (pair_of n.entry.value) far.entries

  count : length pairs ≡ length (joined r near.entries (pair_of n.entry.value) far.entries) + 1
  count = length_joined r (p ∷ []) near.entries far.entries (pair_of n.entry.value) 1 (rw empty refl)

  flat : near.black ≡ far.black
  flat = level_sides r n even

  none : near.black ≡ 0
  none = ap (λ (s : Shape K V). s.black) empty

  -- a black node, a red one below it
  pub added_below_black : n.color ≡ Black → IsGrownTo pairs n lean Added (with_near_part r n (branch Red leaf p leaf))
  added_below_black black =
      let own = wider.rises r n.color lean in
      rw (parts r n) at (grown_to r n.color near n.entry far (branch Red leaf p leaf) n.entry far lean Added pairs flat refl count (omega (arith, none, own.near)) (omega (arith, own.far)) (under_black n.color _ black) (under_black n.color far black))

  -- a red node, a black one below it
  pub added_below_red : n.color ≡ Red → lean ≡ side → IsGrownTo pairs n lean AddedTaller (with_near_part r n (branch Black leaf p leaf))
  added_below_red red leans =
      let own = rw (← red) at (red_rises side lean leans) in
      rw (parts r n) at (grown_to r n.color near n.entry far (branch Black leaf p leaf) n.entry far lean AddedTaller pairs flat refl count (omega (arith, none, own.near)) (omega (arith, own.far)) refl (red_over n.color far red (over_far r n even)))

  -- a red node that leans to the other side, where there is nothing either: what it had goes there
  pub added_in_place : (e : Rc (Entry K V) A) → pair_of e.value ≡ p → n.color ≡ Red → (lean ≡ side → ⊥) → (root : Link K V A) → shape_of_link root ≡ far → IsGrownTo pairs n lean AddedTaller (record (with_far_part r n (branch Black leaf (pair_of n.entry.value) leaf)) { entry = e })
  added_in_place e is red away root view =
      let own = rw (← red) at (red_rises_far side lean away) in
      let was = pair_of n.entry.value in
      let t = branch Black leaf was leaf in
      let nothing = bare root far view (sym flat ∙ none) (red_over n.color far red (over_far r n even)) in
      let order = ap (λ (s : Shape K V). joined r s.entries (pair_of e.value) (was ∷ [])) empty ∙ ap (λ x. joined r [] x (was ∷ [])) is ∙ either_between r p was ∙ ap (λ x. joined r (p ∷ []) was x) (sym nothing) in
      rw (entered r n e t) (rw (parts r n) at (grown_to r n.color near n.entry far near e t lean AddedTaller pairs flat order count (omega (arith, own.near)) (omega (arith, none, flat, own.far)) (ap (λ (s : Shape K V). s.color) empty) refl))
