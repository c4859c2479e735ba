-- A node whose side or entry is lent from: what its tree ends as.
use Rattle.std.proofs.Common.{MutBor}
use Rattle.rpds_core.specs.ValueLends.{Tells}
use Rattle.rpds_core.specs.declared.lend.ValueMutError.{ValueMutError}
use Rattle.rpds_core.proofs.ValueLends.{told_of}
use Rattle.rpds_red_black.specs.Sides.{with_near}
use Rattle.rpds_red_black.specs.TreeWalk.{either}
use Rattle.rpds_red_black.specs.Values.{IsReady}
use Rattle.rpds_red_black.proofs.Words.{◌≡◌, ◌<◌, ◌⊎◌, ℕ, Bool, false, true, length, Result, Some, refl, subst, inl, inr, arith, option_map}
use Rattle.rpds_red_black.proofs.Words.{Ordering, Less, Equal, Greater, IsTotalOrder, Rc, Color, Branch, Node, Entry, IsAscending, IsSearch, find_by, Shape, IsWhole}
use Rattle.rpds_red_black.proofs.Words.{counted, painted, pair_of, pairs_of, shape_of, near_side, tree_with_value_by}
use Rattle.rpds_red_black.proofs.HeldNodes.{IsHeld, side_lower as held_lower, side_kept as held_side, whole_kept as held_kept, whole_with}
use Rattle.rpds_red_black.proofs.Node.{near_ascends}
use Rattle.rpds_red_black.proofs.OpenNodes.{IsOpened}
use Rattle.rpds_red_black.proofs.Pairs.{sought_less, sought_equal, sought_greater}
use Rattle.rpds_red_black.proofs.Values.{length_with_value, with_value_less, with_value_equal, with_value_greater}

-- what a tree s that lends the value of k ends as: v is written for sure where Sure holds
abbrev pub Lends : {K V : Type 0} → (K → Ordering) → Type 0 → Shape K V → V → Shape K V → Type 0
Lends seek Sure s v end = (Sure → end ≡ tree_with_value_by seek s v) × ((end ≡ tree_with_value_by seek s v) ⊎ (end ≡ s))

-- what `Rc::make_mut` lends of an entry, where clones equal their source
pub entry_same : {K V : Type 0} {R : K → K → Ordering} {ck : K → K → Type 0} {cv : V → V → Type 0} {s : Shape K V} (a b : Entry K V) → IsReady R ck cv s
    → (b ≡ a) ⊎ (ck a.key b.key × cv a.value b.value) → b ≡ a
entry_same a b r e = grind (arith, e, r.clone_keys a.key b.key, r.clone_values a.value b.value)

-- the tree s at its root, a node that ends behind its pointer as it is left
pub record IsEntered {K V A : Type 0} (R : K → K → Ordering) (s : Shape K V) (c : Color) (count : ℕ) (n : Node K V A)
    (behind : Node K V A → Rc (Node K V A) A) : Type 0 where
  pub total : IsTotalOrder R
  pub ascending : IsAscending R s.entries
  pub opened : IsOpened s (painted c n)
  pub size : count ≡ counted (length s.entries)
  pub ends : (m : Node K V A) → (behind m).value ≡ m

module _ {K V A : Type 0} {R : K → K → Ordering} {s : Shape K V} {c : Color} {count : ℕ} {n : Node K V A} {behind : Node K V A → Rc (Node K V A) A}
    (a : IsEntered R s c count n behind) where
  held : IsHeld s c count n behind
  held = record { opened = a.opened; size = a.size; ends = a.ends }

  up : IsAscending R (pairs_of n)
  up = subst (λ s. IsAscending R s.entries) a.opened.same a.ascending

  -- the tree, once its root is left as m
  abbrev left_as : Node K V A → Shape K V
  left_as m = shape_of (painted c (behind m).value)

  module _ {seek : K → Ordering} (finds : IsSearch R seek) (tied : seek n.entry.value.key ≡ Equal) (e : Entry K V) (same : e ≡ n.entry.value) where
    pub here_found : option_map (λ p. p.1) (find_by seek s.entries) ≡ Some e.value
    here_found = rw (a.opened.same, sought_equal R a.total finds n.left.entries (pair_of n.entry.value) n.right.entries up tied, same) refl

    pub here_lent : (inside : Entry K V → Rc (Entry K V) A) → ((x : Entry K V) → (inside x).value ≡ x) → {Sure : Type 0} (v : V)
        → Lends seek Sure s v (left_as (record n { entry = inside (record e { value = v }) }))
    here_lent inside is v =
        let put = with_value_equal R a.total finds v n.left.entries (pair_of n.entry.value) n.right.entries up tied in
        let x = inside (record e { value = v }) in
        let written : left_as (record n { entry = x }) ≡ tree_with_value_by seek s v =
        rw (a.ends (record n { entry = x }), is (record e { value = v }), same, a.opened.same, put) refl in
        (λ sure. written, inl written)

  -- a side that is lent from, the right one for `true`
  module _ (right : Bool) where
    pub side_ready : {ck : K → K → Type 0} {cv : V → V → Type 0} → IsReady R ck cv s → IsReady R ck cv (near_side right n)
    side_ready r = record { ascending = near_ascends R right n up; clone_keys = r.clone_keys; clone_values = r.clone_values }

    pub side_lower : (near_side right n).depth < s.depth
    side_lower = held_lower held right

    pub whole_kept : {d : Shape K V} → d ≡ near_side right n → IsWhole (Branch c count (behind (with_near right n d)))
    whole_kept e = held_kept held right e

    pub whole_lent : (seek : K → Ordering) (v : V) {d : Shape K V} → (d ≡ tree_with_value_by seek (near_side right n) v) ⊎ (d ≡ near_side right n)
        → IsWhole (Branch c count (behind (with_near right n d)))
    whole_lent seek v (inl e) = rw e (whole_with held right (tree_with_value_by seek (near_side right n) v).entries (length_with_value R seek (near_side right n).entries v))
    whole_lent seek v (inr e) = whole_kept e

    pub side_kept : {d : Shape K V} → d ≡ near_side right n → left_as (with_near right n d) ≡ s
    side_kept e = held_side held right e

  -- where what is looked for lies there
  module _ {seek : K → Ordering} (finds : IsSearch R seek) where
    pub side_told : (right : Bool) → seek n.entry.value.key ≡ either right Less Greater → (r : Result (MutBor V) ValueMutError)
        → Tells (option_map (λ p. p.1) (find_by seek (near_side right n).entries)) r → Tells (option_map (λ p. p.1) (find_by seek s.entries)) r
    side_told false h = told_of (rw (a.opened.same, sought_less R a.total finds n.left.entries (pair_of n.entry.value) n.right.entries up h) refl)
    side_told true h = told_of (rw (a.opened.same, sought_greater R a.total finds n.left.entries (pair_of n.entry.value) n.right.entries up h) refl)

    side_put : (right : Bool) (v : V) → seek n.entry.value.key ≡ either right Less Greater
        → left_as (with_near right n (tree_with_value_by seek (near_side right n) v)) ≡ tree_with_value_by seek s v
    side_put false v h = rw (
      a.ends (with_near false n (tree_with_value_by seek n.left v)),
      a.opened.same,
      with_value_less R a.total finds v n.left.entries (pair_of n.entry.value) n.right.entries up h,
    ) refl
    side_put true v h = rw (
      a.ends (with_near true n (tree_with_value_by seek n.right v)),
      a.opened.same,
      with_value_greater R a.total finds v n.left.entries (pair_of n.entry.value) n.right.entries up h,
    ) refl

    pub side_lent : (right : Bool) → seek n.entry.value.key ≡ either right Less Greater → {Sure : Type 0} (v : V) {d : Shape K V}
        → Lends seek Sure (near_side right n) v d → Lends seek Sure s v (left_as (with_near right n d))
    side_lent right h v l = (
      λ sure. rw (l.0 sure) (side_put right v h),
      elim l.1 [ inl e ↦ inl (rw e (side_put right v h)) | inr e ↦ inr (side_kept right e) ],
    )
