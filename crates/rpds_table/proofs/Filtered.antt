-- Lists in another order, filtered.
use Rattle.std.proofs.Common.{zero, suc, [], ◌∷◌, ◌<◌, Bool, true, false, cond, List, slice_set, slice_index_or, length, ℕ, arith, filter, swap}
use Rattle.std.specs.List.Sorted.{IsPermutation}
use Rattle.std.proofs.lemmas.List.Sorted.{IsPermutation-refl, IsPermutation-trans, IsPermutation-cons, IsPermutation-middle, IsPermutation-keeps}

module _ {X : Type 0} (p : X → Bool) where
  -- two neighbours change places
  flip : (x z : X) (l : List X) → IsPermutation (filter p (x ∷ z ∷ l)) (filter p (z ∷ x ∷ l))
  flip x z l = go (p x) (p z) where
    go : (a b : Bool) → IsPermutation (cond a (x ∷ cond b (z ∷ filter p l) (filter p l)) (cond b (z ∷ filter p l) (filter p l)))
        (cond b (z ∷ cond a (x ∷ filter p l) (filter p l)) (cond a (x ∷ filter p l) (filter p l)))
    go true true = IsPermutation-middle (x ∷ []) z (filter p l)
    go true false = IsPermutation-refl _
    go false true = IsPermutation-refl _
    go false false = IsPermutation-refl _

  under : (z : X) (xs ys : List X) → IsPermutation (filter p xs) (filter p ys) → IsPermutation (filter p (z ∷ xs)) (filter p (z ∷ ys))
  under z xs ys h = go (p z) where
    go : (b : Bool) → IsPermutation (cond b (z ∷ filter p xs) (filter p xs)) (cond b (z ∷ filter p ys) (filter p ys))
    go true = IsPermutation-cons z _ _ h
    go false = h

  -- the first one changes places with another
  front : (d x : X) (l : List X) (j : ℕ) → j < length l → IsPermutation (filter p (x ∷ l)) (filter p (slice_index_or l j d ∷ slice_set l j x))
  front d x [] j h = absurd (omega (arith, h))
  front d x (z ∷ l) zero h = flip x z l
  front d x (z ∷ l) (suc j) h =
      IsPermutation-trans _ _ _ (flip x z l)
      (IsPermutation-trans _ _ _ (under z (x ∷ l) (slice_index_or l j d ∷ slice_set l j x) (front d x l j (omega (arith, h))))
      (flip z (slice_index_or l j d) (slice_set l j x)))

  exchange : (d : X) (l : List X) (i j : ℕ) → i < length l → j < length l → IsPermutation (filter p l)
      (filter p (slice_set (slice_set l i (slice_index_or l j d)) j (slice_index_or l i d)))
  exchange d [] i j h k = absurd (omega (arith, h))
  exchange d (x ∷ l) zero zero h k = IsPermutation-refl _
  exchange d (x ∷ l) zero (suc j) h k = front d x l j (omega (arith, k))
  exchange d (x ∷ l) (suc i) zero h k = front d x l i (omega (arith, h))
  exchange d (x ∷ l) (suc i) (suc j) h k = under x l _ (exchange d l i j (omega (arith, h)) (omega (arith, k)))

  exchanged : (l : List X) (i j : ℕ) → i < length l → j < length l → IsPermutation (filter p l) (filter p (swap l i j))
  exchanged [] i j h k = absurd (omega (arith, h))
  exchanged (d ∷ l) i j h k = exchange d (d ∷ l) i j h k

  -- the elements that pass come in another order too
  pub IsPermutation_filter : (xs ys : List X) → IsPermutation xs ys → IsPermutation (filter p xs) (filter p ys)
  IsPermutation_filter xs ys s =
      IsPermutation-keeps xs (λ l. IsPermutation (filter p xs) (filter p l)) (IsPermutation-refl _) (λ l i j h k q. IsPermutation-trans _ _ _ q
      (exchanged l i j h k)) ys s
