-- Lists of pairs around a pair in their middle, by position.
use Rattle.std.proofs.lemmas.List.{set-append_left, set-append_right}
use Rattle.std.proofs.lemmas.List.Edits.{insert-append_left, insert-append_right}
use Rattle.std.specs.List.{insert}
use Rattle.std.specs.Prelude.{set}
use Rattle.rpds_red_black.specs.Seeks.{IsAt, IsGapAt, IsPlacedBy, IsSoughtBy, Looks}
use Rattle.rpds_red_black.specs.declared.seek.Aim.{Aim}
use Rattle.rpds_red_black.specs.declared.seek.Aim.TheVariants as aim
use Rattle.rpds_red_black.specs.declared.seek.At.{At}
use Rattle.rpds_red_black.specs.declared.seek.Gap.{Gap}
use Rattle.rpds_red_black.proofs.Words.{◌≡◌, ◌≢◌, ℕ, zero, suc, ◌+◌, ◌-◌, ◌<◌, ◌≤◌, List, [], ◌∷◌, ◌++◌, None, length, take, drop, slice_get, refl, ap, ◌∙◌, arith}
use Rattle.rpds_red_black.proofs.Words.{Node, pair_of, pairs_of}
use Rattle.rpds_red_black.proofs.PairPositions.{at_left, at_own, at_right}

module _ {T : Type 0} where
  pub take_left : (l r : List T) (e : T) (i : ℕ) → i ≤ length l → take i (l ++ e ∷ r) ≡ take i l
  take_left l r e zero h = refl
  take_left [] r e (suc i) h = absurd (omega (arith, h))
  take_left (x ∷ l) r e (suc i) h = ap (λ z. x ∷ z) (take_left l r e i (omega (arith, h)))

  pub take_own : (l r : List T) (e : T) → take (length l) (l ++ e ∷ r) ≡ l
  take_own [] r e = refl
  take_own (x ∷ l) r e = ap (λ z. x ∷ z) (take_own l r e)

  pub take_right : (l r : List T) (e : T) (i j : ℕ) → i ≡ length l + 1 + j → take i (l ++ e ∷ r) ≡ l ++ e ∷ take j r
  take_right l r e zero j h = absurd (omega (arith, h))
  take_right [] r e (suc i) j h = (let same : i ≡ j = omega (arith, h) in ap (λ k. e ∷ take k r) same)
  take_right (x ∷ l) r e (suc i) j h = ap (λ z. x ∷ z) (take_right l r e i j (omega (arith, h)))

  pub drop_left : (l r : List T) (e : T) (i : ℕ) → i ≤ length l → drop i (l ++ e ∷ r) ≡ drop i l ++ e ∷ r
  drop_left l r e zero h = refl
  drop_left [] r e (suc i) h = absurd (omega (arith, h))
  drop_left (x ∷ l) r e (suc i) h = drop_left l r e i (omega (arith, h))

  pub drop_right : (l r : List T) (e : T) (i j : ℕ) → i ≡ length l + 1 + j → drop i (l ++ e ∷ r) ≡ drop j r
  drop_right l r e zero j h = absurd (omega (arith, h))
  drop_right [] r e (suc i) j h = (let same : i ≡ j = omega (arith, h) in ap (λ k. drop k r) same)
  drop_right (x ∷ l) r e (suc i) j h = drop_right l r e i j (omega (arith, h))

  -- the first one, where there are some on the left
  pub first_of_left : (l r : List T) (e : T) → l ≢ [] → slice_get (l ++ e ∷ r) 0 ≡ slice_get l 0
  first_of_left [] r e some = absurd (some refl)
  first_of_left (x ∷ l) r e some = refl

  pub rest_of_left : (l r : List T) (e : T) → l ≢ [] → drop 1 (l ++ e ∷ r) ≡ drop 1 l ++ e ∷ r
  rest_of_left [] r e some = absurd (some refl)
  rest_of_left (x ∷ l) r e some = refl

  pub insert_right : (l r : List T) (e p : T) (i j : ℕ) → i ≡ length l + 1 + j → insert (l ++ e ∷ r) i p ≡ l ++ e ∷ insert r j p
  insert_right l r e p i j h =
      let back : i - length l ≡ suc j = omega (arith, h) in
      insert-append_right l (e ∷ r) (length l) i p refl (omega (arith, h)) ∙ ap (λ k. l ++ insert (e ∷ r) k p) back

  pub set_own : (l r : List T) (e p : T) → set (l ++ e ∷ r) (length l) p ≡ l ++ p ∷ r
  set_own [] r e p = refl
  set_own (x ∷ l) r e p = ap (λ z. x ∷ z) (set_own l r e p)

  pub set_right : (l r : List T) (e p : T) (i j : ℕ) → i ≡ length l + 1 + j → set (l ++ e ∷ r) i p ≡ l ++ e ∷ set r j p
  set_right l r e p i j h =
      let back : i - length l ≡ suc j = omega (arith, h) in
      set-append_right l (e ∷ r) (length l) i p refl (omega (arith, h)) ∙ ap (λ k. l ++ set (e ∷ r) k p) back

module _ {K V A : Type 0} (n : Node K V A) where
  pub gap_placed : (s : Gap) (p : K × V) (a : Aim Gap) → IsGapAt s n a
      → IsPlacedBy (λ s es. (s.size ≡ length es) × (s.position ≤ length es)) (λ s p es. insert es s.position p) s p n a
  gap_placed s p aim.Here h = absurd h
  gap_placed s p (aim.Left t) h = (
    (h.1, omega (arith, h.1, h.2)),
    insert-append_left n.left.entries (pair_of n.entry.value ∷ n.right.entries) s.position p (omega (arith, h.0, h.1, h.2))
        ∙ ap (λ k. insert n.left.entries k p ++ pair_of n.entry.value ∷ n.right.entries) h.0,
  )
  gap_placed s p (aim.Right t) h = (
    (h.1, omega (arith, h.1, h.2)),
    insert_right n.left.entries n.right.entries (pair_of n.entry.value) p s.position t.position h.0,
  )

  pub at_placed : (s : At) (p : K × V) (a : Aim At) → IsAt s n a
      → IsPlacedBy (λ s es. (s.size ≡ length es) × (s.position < length es)) (λ s p es. set es s.position p) s p n a
  at_placed s p aim.Here h = ap (λ k. set (pairs_of n) k p) h ∙ set_own n.left.entries n.right.entries (pair_of n.entry.value) p
  at_placed s p (aim.Left t) h = (
    (h.1, omega (arith, h.1, h.2)),
    set-append_left n.left.entries (pair_of n.entry.value ∷ n.right.entries) s.position p (omega (arith, h.0, h.1, h.2))
        ∙ ap (λ k. set n.left.entries k p ++ pair_of n.entry.value ∷ n.right.entries) h.0,
  )
  at_placed s p (aim.Right t) h = (
    (h.1, omega (arith, h.1, h.2)),
    set_right n.left.entries n.right.entries (pair_of n.entry.value) p s.position t.position h.0,
  )

  abbrev GapLooks : Looks Gap K V
  GapLooks = record {
    before = λ s es. take s.position es;
    found = λ s es. None;
    after = λ s es. drop s.position es;
  }

  abbrev AtLooks : Looks At K V
  AtLooks = record {
    before = λ s es. take s.position es;
    found = λ s es. slice_get es s.position;
    after = λ s es. drop (suc s.position) es;
  }

  pub gap_sought : (s : Gap) (a : Aim Gap) → IsGapAt s n a → IsSoughtBy (λ s es. (s.size ≡ length es) × (s.position ≤ length es)) GapLooks s n a
  gap_sought s aim.Here h = absurd h
  gap_sought s (aim.Left t) h = (
    (h.1, omega (arith, h.1, h.2)),
    take_left n.left.entries n.right.entries (pair_of n.entry.value) s.position (omega (arith, h.0, h.1, h.2)) ∙ ap (λ k. take k n.left.entries) h.0,
    refl,
    drop_left n.left.entries n.right.entries (pair_of n.entry.value) s.position (omega (arith, h.0, h.1, h.2))
        ∙ ap (λ k. drop k n.left.entries ++ pair_of n.entry.value ∷ n.right.entries) h.0,
  )
  gap_sought s (aim.Right t) h = (
    (h.1, omega (arith, h.1, h.2)),
    take_right n.left.entries n.right.entries (pair_of n.entry.value) s.position t.position h.0,
    refl,
    drop_right n.left.entries n.right.entries (pair_of n.entry.value) s.position t.position h.0,
  )

  pub at_sought : (s : At) (a : Aim At) → IsAt s n a → IsSoughtBy (λ s es. (s.size ≡ length es) × (s.position < length es)) AtLooks s n a
  at_sought s aim.Here h = (
    ap (λ k. take k (pairs_of n)) h ∙ take_own n.left.entries n.right.entries (pair_of n.entry.value),
    ap (λ k. slice_get (pairs_of n) k) h ∙ at_own n.left.entries n.right.entries (pair_of n.entry.value),
    drop_right n.left.entries n.right.entries (pair_of n.entry.value) (suc s.position) 0 (omega (arith, h)),
  )
  at_sought s (aim.Left t) h = (
    (h.1, omega (arith, h.1, h.2)),
    take_left n.left.entries n.right.entries (pair_of n.entry.value) s.position (omega (arith, h.0, h.1, h.2)) ∙ ap (λ k. take k n.left.entries) h.0,
    at_left n.left.entries n.right.entries (pair_of n.entry.value) s.position (omega (arith, h.0, h.1, h.2)) ∙ ap (λ k. slice_get n.left.entries k) h.0,
    drop_left n.left.entries n.right.entries (pair_of n.entry.value) (suc s.position) (omega (arith, h.0, h.1, h.2))
        ∙ ap (λ k. drop (suc k) n.left.entries ++ pair_of n.entry.value ∷ n.right.entries) h.0,
  )
  at_sought s (aim.Right t) h = (
    (h.1, omega (arith, h.1, h.2)),
    take_right n.left.entries n.right.entries (pair_of n.entry.value) s.position t.position h.0,
    at_right n.left.entries n.right.entries (pair_of n.entry.value) s.position t.position h.0,
    drop_right n.left.entries n.right.entries (pair_of n.entry.value) (suc s.position) (suc t.position) (omega (arith, h.0)),
  )
