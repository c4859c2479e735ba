-- A slice of entries that is cut at a key.
use Rattle.std.proofs.Common.{get_or}
use Rattle.std.proofs.lemmas.List.{take_rest}
use Rattle.rpds_red_black.proofs.Words.{◌≡◌, ◌<◌, ℕ, zero, suc, ◌+◌, ◌-◌, None, Some, List, [], ◌∷◌, ◌++◌, length, map, take, drop, sym, ap, subst, ◌∙◌, arith}
use Rattle.rpds_red_black.proofs.Words.{tied_back, Ordering, Less, Equal, Greater, ordering_reverse, IsTotalOrder, IsCutAt, IsAboveAll, IsAscending}
use Rattle.rpds_red_black.proofs.Cutting.{above_tied}
use Rattle.rpds_red_black.proofs.Pairs.{around, below_through, below_tied}

module _ {T K V : Type 0} (f : T → K × V) where
  -- a slice around the item at a place
  cut_at : (few : List T) (i : ℕ) (x : T) → i < length few → x ≡ get_or few i x → map f few ≡ map f (take i few) ++ f x ∷ map f (drop (suc i) few)
  cut_at [] i x fits is = absurd (omega (arith, fits))
  cut_at (y ∷ few) zero x fits is = ap (λ z. f z ∷ map f few) (sym is)
  cut_at (y ∷ few) (suc i) x fits is = ap (λ z. f y ∷ z) (cut_at few i x (omega (arith, fits)) is)

  from_at : (few : List T) (i : ℕ) (x : T) → i < length few → x ≡ get_or few i x → map f (drop i few) ≡ f x ∷ map f (drop (suc i) few)
  from_at [] i x fits is = absurd (omega (arith, fits))
  from_at (y ∷ few) zero x fits is = ap (λ z. f z ∷ map f few) (sym is)
  from_at (y ∷ few) (suc i) x fits is = from_at few i x (omega (arith, fits)) is

  module _ (R : K → K → Ordering) (o : IsTotalOrder R) (k : K) (few : List T) (i : ℕ) (x : T) (fits : i < length few) (is : x ≡ get_or few i x)
      (up : IsAscending R (map f few)) where
    rest_is : (j : ℕ) → map f (take (length few - j) (drop j few)) ≡ map f (drop j few)
    rest_is j = ap (map f) (take_rest few j)

    -- the key is that of the item
    pub cut_found : R (f x).0 k ≡ Equal → IsCutAt R k (map f few) (map f (take i few)) (Some (f x)) (map f (take (length few - (i + 1)) (drop (i + 1) few)))
    cut_found tied =
        let next : suc i ≡ i + 1 = omega arith in
        let parts = around R (map f (take i few)) (f x) (map f (drop (suc i) few)) (subst (IsAscending R) (cut_at few i x fits is) up) in
        let tied' : R k (f x).0 ≡ Equal = tied_back o (f x).0 k tied in
        rw (rest_is (i + 1), sym next) record {
          same = cut_at few i x fits is;
          below = above_tied R o k (f x).0 (map f (take i few)) tied' parts.above;
          tied = tied';
          above = below_tied R o k (f x).0 (map f (drop (suc i) few)) tied' parts.below;
        }

    -- the item is the first one above the key
    pub cut_passed : IsAboveAll R k (map f (take i few)) → R (f x).0 k ≡ Greater → IsCutAt R k (map f few) (map f (take i few)) None
        (map f (take (length few - i) (drop i few)))
    cut_passed below greater =
        let parts = around R (map f (take i few)) (f x) (map f (drop (suc i) few)) (subst (IsAscending R) (cut_at few i x fits is) up) in
        let less : R k (f x).0 ≡ Less = o.antisymm k (f x).0 ∙ ap ordering_reverse greater in
        rw (rest_is i, from_at few i x fits is) record {
          same = cut_at few i x fits is;
          below = below;
          tied = tt;
          above = (less, below_through R o k (f x).0 (map f (drop (suc i) few)) less parts.below);
        }
