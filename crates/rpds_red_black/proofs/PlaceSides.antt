-- A node whose side or entry is lent from by a position: what its tree ends as.
use Rattle.std.proofs.Common.{MutBor}
use Rattle.rpds_core.specs.ValueLends.{Tells, with_reason}
use Rattle.rpds_core.specs.declared.lend.ValueMutError.{ValueMutError}
use Rattle.rpds_core.specs.declared.lend.ValueMutError.TheVariants.{NoMemory}
use Rattle.rpds_red_black.specs.Seeks.{IsAt}
use Rattle.rpds_red_black.specs.Sides.{with_near}
use Rattle.rpds_red_black.specs.Values.{tree_with_key_at, with_key_at, IsPlaceIn}
use Rattle.rpds_red_black.specs.declared.seek.Aim.TheVariants as aim
use Rattle.rpds_red_black.specs.declared.seek.At.{At}
use Rattle.rpds_red_black.proofs.Words.{◌≡◌, ◌<◌, ◌⊎◌, ℕ, zero, suc, ◌+◌, Bool, false, true, List, [], ◌∷◌, ◌++◌, length, Option, Result, Ok, Err, Some, refl, sym, ap, subst, ◌∙◌, inl, inr, arith}
use Rattle.rpds_red_black.proofs.Words.{option_map, slice_get, Rc, Color, Branch, Node, Entry, Shape, IsWhole, pair_of, pairs_of, near_side}
use Rattle.rpds_red_black.proofs.HeldNodes.{IsHeld, left_as, side_kept, whole_kept, whole_with}
use Rattle.rpds_red_black.proofs.PairPositions.{at_left, at_own, at_right}

module _ {K V : Type 0} where
  pub length_with_key : (es : List (K × V)) (i : ℕ) (k : K) → length (with_key_at es i k) ≡ length es
  length_with_key [] i k = refl
  length_with_key (e ∷ es) zero k = refl
  length_with_key (e ∷ es) (suc i) k = omega (arith, length_with_key es i k)

  with_key_left : (l r : List (K × V)) (e : K × V) (i : ℕ) (k : K) → i < length l → with_key_at (l ++ e ∷ r) i k ≡ with_key_at l i k ++ e ∷ r
  with_key_left [] r e i k h = absurd (omega (arith, h))
  with_key_left (x ∷ l) r e zero k h = refl
  with_key_left (x ∷ l) r e (suc i) k h = ap (λ z. x ∷ z) (with_key_left l r e i k (omega (arith, h)))

  with_key_own : (l r : List (K × V)) (e : K × V) (k : K) → with_key_at (l ++ e ∷ r) (length l) k ≡ l ++ (k, e.1) ∷ r
  with_key_own [] r e k = refl
  with_key_own (x ∷ l) r e k = ap (λ z. x ∷ z) (with_key_own l r e k)

  with_key_right : (l r : List (K × V)) (e : K × V) (i j : ℕ) (k : K) → i ≡ length l + 1 + j → with_key_at (l ++ e ∷ r) i k ≡ l ++ e ∷ with_key_at r j k
  with_key_right l r e zero j k h = absurd (omega (arith, h))
  with_key_right [] r e (suc i) j k h = (let same : i ≡ j = omega (arith, h) in ap (λ m. e ∷ with_key_at r m k) same)
  with_key_right (x ∷ l) r e (suc i) j k h = ap (λ z. x ∷ z) (with_key_right l r e i j k (omega (arith, h)))

-- what a tree s that lends the key at a position ends as: k is written for sure where Sure holds
abbrev pub LendsKey : {K V : Type 0} → ℕ → Type 0 → Shape K V → K → Shape K V → Type 0
LendsKey i Sure s k end = (Sure → end ≡ tree_with_key_at s i k) × ((end ≡ tree_with_key_at s i k) ⊎ (end ≡ s))

-- what `Rc::make_mut` lends of an entry, where clones equal their source
pub entry_kept : {K V : Type 0} {ck : K → K → Type 0} {cv : V → V → Type 0} {s : Shape K V} {place : At} (a b : Entry K V) → IsPlaceIn ck cv s place
    → (b ≡ a) ⊎ (ck a.key b.key × cv a.value b.value) → b ≡ a
entry_kept a b r e = grind (arith, e, r.clone_keys a.key b.key, r.clone_values a.value b.value)

-- what is told of a part is told of the whole, by a descent of its own
told_again : {X E : Type 0} {whole part : Option X} (why : ValueMutError) {own : ValueMutError} → whole ≡ part → own ≡ NoMemory → (r : Result (MutBor X) E)
    → Tells part (with_reason why r) → Tells whole (with_reason own r)
told_again why e memory (Ok x) h = e ∙ h
told_again {X = X} {whole = whole} why e memory (Err x) h = subst (λ (y : ValueMutError). Tells {V = X} whole (Err y)) (sym memory) tt

module _ {K V A : Type 0} {s : Shape K V} {c : Color} {count : ℕ} {n : Node K V A} {behind : Node K V A → Rc (Node K V A) A}
    (h : IsHeld s c count n behind) (place : At) where
  pub place_size : place.size ≡ length s.entries → place.size ≡ length (pairs_of n)
  place_size same = same ∙ ap (λ (s : Shape K V). length s.entries) h.opened.same

  -- the node's own entry is there
  module _ (own : IsAt place n aim.Here) (e : Entry K V) (same : e ≡ n.entry.value) where
    pub key_found : option_map (λ p. p.0) (slice_get s.entries place.position) ≡ Some e.key
    key_found = rw (h.opened.same, own, at_own n.left.entries n.right.entries (pair_of n.entry.value), same) refl

    pub key_lent : (inside : Entry K V → Rc (Entry K V) A) → ((x : Entry K V) → (inside x).value ≡ x) → {Sure : Type 0} (k : K)
        → LendsKey place.position Sure s k (left_as h (record n { entry = inside (record e { key = k }) }))
    key_lent inside is k =
        let put = with_key_own n.left.entries n.right.entries (pair_of n.entry.value) k in
        let x = inside (record e { key = k }) in
        let written : left_as h (record n { entry = x }) ≡ tree_with_key_at s place.position k =
        rw (h.ends (record n { entry = x }), is (record e { key = k }), same, h.opened.same, own, put) refl in
        (λ sure. written, inl written)

  -- it is on a side
  pub whole_lent : (right : Bool) (i : ℕ) (k : K) {d : Shape K V} → (d ≡ tree_with_key_at (near_side right n) i k) ⊎ (d ≡ near_side right n)
      → IsWhole (Branch c count (behind (with_near right n d)))
  whole_lent right i k (inl e) = rw e (whole_with h right (with_key_at (near_side right n).entries i k) (length_with_key (near_side right n).entries i k))
  whole_lent right i k (inr e) = whole_kept h right e

  module _ (t : At) (on : IsAt place n (aim.Left t)) where
    pub ready_left : {ck : K → K → Type 0} {cv : V → V → Type 0} → IsPlaceIn ck cv s place → IsPlaceIn ck cv n.left t
    ready_left r = record { size = on.1; there = omega (arith, on.1, on.2); clone_keys = r.clone_keys; clone_values = r.clone_values }

    within : t.position < length n.left.entries
    within = omega (arith, on.1, on.2)

    pub told_left : {E : Type 0} (why : ValueMutError) {own : ValueMutError} → own ≡ NoMemory → (r : Result (MutBor K) E)
        → Tells (option_map (λ p. p.0) (slice_get n.left.entries t.position)) (with_reason why r)
        → Tells (option_map (λ p. p.0) (slice_get s.entries place.position)) (with_reason own r)
    told_left why = told_again why (rw (h.opened.same, on.0, at_left n.left.entries n.right.entries (pair_of n.entry.value) t.position within) refl)

    put_left : (k : K) → left_as h (with_near false n (tree_with_key_at n.left t.position k)) ≡ tree_with_key_at s place.position k
    put_left k = rw (
      h.ends (with_near false n (tree_with_key_at n.left t.position k)),
      h.opened.same,
      on.0,
      with_key_left n.left.entries n.right.entries (pair_of n.entry.value) t.position k within,
    ) refl

    pub lent_left : {Sure : Type 0} (k : K) {d : Shape K V} → LendsKey t.position Sure n.left k d
        → LendsKey place.position Sure s k (left_as h (with_near false n d))
    lent_left k l = (
      λ sure. rw (l.0 sure) (put_left k),
      elim l.1 [ inl e ↦ inl (rw e (put_left k)) | inr e ↦ inr (side_kept h false e) ],
    )

  module _ (t : At) (on : IsAt place n (aim.Right t)) where
    pub ready_right : {ck : K → K → Type 0} {cv : V → V → Type 0} → IsPlaceIn ck cv s place → IsPlaceIn ck cv n.right t
    ready_right r = record { size = on.1; there = omega (arith, on.1, on.2); clone_keys = r.clone_keys; clone_values = r.clone_values }

    pub told_right : {E : Type 0} (why : ValueMutError) {own : ValueMutError} → own ≡ NoMemory → (r : Result (MutBor K) E)
        → Tells (option_map (λ p. p.0) (slice_get n.right.entries t.position)) (with_reason why r)
        → Tells (option_map (λ p. p.0) (slice_get s.entries place.position)) (with_reason own r)
    told_right why = told_again why (rw (h.opened.same, at_right n.left.entries n.right.entries (pair_of n.entry.value) place.position t.position on.0) refl)

    put_right : (k : K) → left_as h (with_near true n (tree_with_key_at n.right t.position k)) ≡ tree_with_key_at s place.position k
    put_right k = rw (
      h.ends (with_near true n (tree_with_key_at n.right t.position k)),
      h.opened.same,
      with_key_right n.left.entries n.right.entries (pair_of n.entry.value) place.position t.position k on.0,
    ) refl

    pub lent_right : {Sure : Type 0} (k : K) {d : Shape K V} → LendsKey t.position Sure n.right k d
        → LendsKey place.position Sure s k (left_as h (with_near true n d))
    lent_right k l = (
      λ sure. rw (l.0 sure) (put_right k),
      elim l.1 [ inl e ↦ inl (rw e (put_right k)) | inr e ↦ inr (side_kept h true e) ],
    )
