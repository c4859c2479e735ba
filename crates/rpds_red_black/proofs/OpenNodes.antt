-- A tree that was opened at its root.
use Rattle.rpds_red_black.specs.TreeNode.{IsCopy}
use Rattle.rpds_red_black.proofs.Words.{◌≡◌, ◌≤◌, ℕ, None, sym, ap, subst, ◌∙◌, ◌⊎◌, arith, Ordering, Rc, Color, Link, Leaf, Branch, Node, find_by, Shape, IsSound}
use Rattle.rpds_red_black.proofs.Words.{MayStandOver, painted, shape_of, shape_of_link, IsEven, IsEvenLink, IsWhole, Painted, refl}

-- a tree's shape, opened at a node that is its root's or a copy of it
pub record IsOpened {K V A : Type 0} (s : Shape K V) (n : Painted K V A) : Type 0 where
  pub same : s ≡ shape_of n
  pub even : IsEven n
  pub sound : IsSound s

module _ {K V : Type 0} where
  pub copied : {A : Type 0} (a b : Node K V A) → (b ≡ a) ⊎ IsCopy a b → IsCopy a b
  copied a b e = grind (arith, e)

  shape_copy : {A : Type 0} (c : Color) (a b : Node K V A) → IsCopy a b → shape_of (painted c a) ≡ shape_of (painted c b)
  shape_copy c a b same = rw (same.left, same.entry, same.right) refl

  even_copy : {A : Type 0} (c : Color) (a b : Node K V A) → IsCopy a b → IsEven (painted c a) → IsEven (painted c b)
  even_copy c a b same e = rw (same.left, same.right) record { level = e.level; left = e.left; right = e.right }

  pub opened : {A : Type 0} {s : Shape K V} {root : Link K V A} {c : Color} {count : ℕ} {rc : Rc (Node K V A) A} {n : Node K V A} → shape_of_link root ≡ s → root ≡ Branch c count rc → IsWhole root → (n ≡ rc.value) ⊎ IsCopy rc.value n → IsOpened s (painted c n)
  opened {c = c} {rc = rc} {n = n} view is whole made =
      let same = copied rc.value n made in
      let even : IsEven (painted c rc.value) = (subst IsEvenLink is whole.even).0 in
      record { same = sym view ∙ ap shape_of_link is ∙ shape_copy c rc.value n same; even = even_copy c rc.value n same even; sound = subst IsSound view whole.sound }

  pub stands : (c : Color) (a b : Shape K V) → b.color ≡ a.color → MayStandOver c a → MayStandOver c b
  stands c a b e h = grind arith

  -- nothing is found in a tree of no levels
  pub none_in_leaf : {A : Type 0} (seek : K → Ordering) (root : Link K V A) (s : Shape K V) → shape_of_link root ≡ s → s.depth ≤ 0 → find_by seek s.entries ≡ None
  none_in_leaf seek Leaf s e h = subst (λ (s : Shape K V). find_by seek s.entries ≡ None) e refl
  none_in_leaf seek (Branch c count n) s e h = let d = ap (λ (s : Shape K V). s.depth) e in absurd (omega (arith, d, h))
