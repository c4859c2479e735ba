-- Searches by a test, and walks that compare neighbors.
use Rattle.std.proofs.Common.{◌≡◌, ℕ, zero, suc, ◌+◌, ◌<◌, ◌≤◌, ◌⊎◌, inl, inr, Bool, true, false, List, [], ◌∷◌, length, drop, get_or, Result, Ok, Err, IfOk, refl, sym, ap, ◌∙◌, arith, true≢false}
use Rattle.std.specs.List.{AllAdjacentBelow, HoldsAt, IsAllAdjacentAnswer}
use Rattle.std.specs.List.Sorted.{IsBinarySearchResult, IsNonDecreasingBy, IsPartitionedBy, IsPartitionPoint}
use Rattle.std.specs.Ordering.{ordering_index}
use Rattle.std.specs.declared.cmp.Ordering.{Ordering}
use Rattle.std.specs.declared.cmp.Ordering.TheVariants.{Less, Equal, Greater}
use Rattle.rpds_sequence.specs.Contents.{less_or_greater}

pub found_equal : {X : Type 0} (ord : X → Ordering) (xs : List X) (r : Result ℕ ℕ) → IsBinarySearchResult ord xs r → IfOk r (HoldsAt (λ y. ord y ≡ Equal) xs)
found_equal ord xs (Ok i) h = h
found_equal ord xs (Err i) h = tt

never_equal : (b : Bool) → less_or_greater b ≡ Equal → ⊥
never_equal true e = absurd (omega (arith, ap ordering_index e))
never_equal false e = absurd (omega (arith, ap ordering_index e))

less_true : (b : Bool) → less_or_greater b ≡ Less → b ≡ true
less_true true e = refl
less_true false e = absurd (omega (arith, ap ordering_index e))

greater_false : (b : Bool) → less_or_greater b ≡ Greater → b ≡ false
greater_false true e = absurd (omega (arith, ap ordering_index e))
greater_false false e = refl

rises_by : (a b : Bool) → (b ≡ true → a ≡ true) → ordering_index (less_or_greater a) ≤ ordering_index (less_or_greater b)
rises_by true b h = omega arith
rises_by false true h = absurd (true≢false (sym (h refl)))
rises_by false false h = omega arith

-- a search by a test, among items of which those that pass come first
module _ {X : Type 0} (p : X → Bool) (xs : List X) where
  rises : IsPartitionedBy p xs → IsNonDecreasingBy (λ y. ordering_index (less_or_greater (p y))) xs
  rises parts i j d a b = rises_by (p (get_or xs i d)) (p (get_or xs j d)) (parts i j d a b)

  pub no_equal : (i : ℕ) → i < length xs → HoldsAt (λ y. less_or_greater (p y) ≡ Equal) xs i → ⊥
  no_equal i within h = by xs refl within
    where
      by : (ys : List X) → ys ≡ xs → i < length ys → ⊥
      by [] e l = absurd (omega (arith, l))
      by (d ∷ ds) e l = never_equal _ (h d)

  pub partition_at : (i : ℕ) → IsBinarySearchResult (λ y. less_or_greater (p y)) xs (Err i) → IsPartitionedBy p xs
      → IsPartitionPoint (λ y. p y ≡ true) (λ y. p y ≡ false) xs i
  partition_at i h parts =
      let point = h (rises parts) in
      (λ k d a b. less_true _ (point.0 k d a b), λ k d a b. greater_false _ (point.1 k d a b))

module _ {X : Type 0} where
  none_behind : (n : ℕ) (x : X) (rest : List X) → drop n ([]) ≡ x ∷ rest → ⊥
  none_behind zero x rest e = omega (arith, ap length e)
  none_behind (suc n) x rest e = omega (arith, ap length e)

  at_drop : (n : ℕ) (xs : List X) (x : X) (rest : List X) → drop n xs ≡ x ∷ rest → (d : X) → get_or xs n d ≡ x
  at_drop n [] x rest e d = absurd (none_behind n x rest e)
  at_drop zero (y ∷ xs) x rest e d = ap (λ l. get_or l 0 d) e
  at_drop (suc n) (y ∷ xs) x rest e d = at_drop n xs x rest e d

  drop_next : (n : ℕ) (xs : List X) (x : X) (rest : List X) → drop n xs ≡ x ∷ rest → drop (suc n) xs ≡ rest
  drop_next n [] x rest e = absurd (none_behind n x rest e)
  drop_next zero (y ∷ xs) x rest e = ap (λ l. drop 1 l) e
  drop_next (suc n) (y ∷ xs) x rest e = drop_next n xs x rest e

  length_drop : (n : ℕ) (xs : List X) (x : X) (rest : List X) → drop n xs ≡ x ∷ rest → length xs ≡ n + 1 + length rest
  length_drop n [] x rest e = absurd (none_behind n x rest e)
  length_drop zero (y ∷ xs) x rest e = omega (arith, ap length e)
  length_drop (suc n) (y ∷ xs) x rest e = omega (arith, length_drop n xs x rest e)

split : (k n : ℕ) → k ≤ n → (k < n) ⊎ (k ≡ n)
split zero zero h = inr refl
split zero (suc n) h = inl (omega arith)
split (suc k) zero h = absurd (omega (arith, h))
split (suc k) (suc n) h = elim (split k n (omega (arith, h))) [ inl l ↦ inl (omega (arith, l)) | inr e ↦ inr (ap suc e) ]

module _ {X : Type 0} (le : X → X → Bool) (xs : List X) where
  -- the first n and the last one that was looked at are in order, and the rest comes behind them
  pub record InOrder (last : X) (rest : List X) : Type 0 where
    pub n : ℕ
    pub there : drop n xs ≡ last ∷ rest
    pub sorted : AllAdjacentBelow (λ x y. le x y ≡ true) xs (n + 1)

  module _ (last x : X) (rest rest' : List X) (o : InOrder last rest) (e : rest ≡ x ∷ rest') where
    next : drop (suc o.n) xs ≡ x ∷ rest'
    next = drop_next o.n xs last rest o.there ∙ e

    -- the last one beside the next
    beside : (b : Bool) → le last x ≡ b → (d : X) → le (get_or xs o.n d) (get_or xs (suc o.n) d) ≡ b
    beside b is d = ap (λ y. le y (get_or xs (suc o.n) d)) (at_drop o.n xs last rest o.there d) ∙ ap (λ y. le last y) (at_drop (suc o.n) xs x rest' next d) ∙ is

    beside_at : (b : Bool) → le last x ≡ b → (k : ℕ) → k ≡ o.n → (d : X) → le (get_or xs k d) (get_or xs (k + 1) d) ≡ b
    beside_at b is k same d =
        let place : suc o.n ≡ k + 1 = omega (arith, same) in
        ap (λ i. le (get_or xs i d) (get_or xs (k + 1) d)) same ∙ ap (λ i. le (get_or xs o.n d) (get_or xs i d)) (sym place) ∙ beside b is d

    pub next_in_order : le last x ≡ true → InOrder x rest'
    next_in_order is = record {
      n = suc o.n;
      there = next;
      sorted = λ k d b. elim (split k o.n (omega (arith, b))) [ inl l ↦ o.sorted k d (omega (arith, l)) | inr same ↦ beside_at true is k same d ];
    }

    pub out_of_order : le last x ≡ false → IsAllAdjacentAnswer (λ x y b. le x y ≡ b) xs false
    out_of_order is = (o.n, omega (arith, length_drop (suc o.n) xs x rest' next), λ d. beside_at false is o.n refl d)

  pub all_in_order : (last : X) (rest : List X) → InOrder last rest → rest ≡ [] → IsAllAdjacentAnswer (λ x y b. le x y ≡ b) xs true
  all_in_order last rest o e = λ k d b. o.sorted k d (omega (arith, b, length_drop o.n xs last rest o.there, ap length e))
