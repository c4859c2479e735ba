-- A value written in a list of pairs.
use Rattle.std.specs.List.{AllByRecursion}
use Rattle.rpds_red_black.specs.Values.{with_value_by}
use Rattle.rpds_red_black.proofs.Words.{◌≡◌, None, List, [], ◌∷◌, ◌++◌, length, refl, ap, arith, Ordering, Less, Equal, Greater, IsTotalOrder, IsBelowAll}
use Rattle.rpds_red_black.proofs.Words.{IsAscending, IsSearch, find_by}
use Rattle.rpds_red_black.proofs.Pairs.{below_middle, over_tied, under_through}

module _ {K V : Type 0} (R : K → K → Ordering) where
  pub length_with_value : (seek : K → Ordering) (es : List (K × V)) (v : V) → length (with_value_by seek es v) ≡ length es
  length_with_value seek [] v = refl
  length_with_value seek (e ∷ es) v = grind (arith, length_with_value seek es v)

  below_with_value : (j : K) (seek : K → Ordering) (es : List (K × V)) (v : V) → IsBelowAll R j es → IsBelowAll R j (with_value_by seek es v)
  below_with_value j seek [] v h = tt
  below_with_value j seek (e ∷ es) v h = grind (arith, below_with_value j seek es v h.1)

  pub ascending_with_value : (seek : K → Ordering) (es : List (K × V)) (v : V) → IsAscending R es → IsAscending R (with_value_by seek es v)
  ascending_with_value seek [] v h = tt
  ascending_with_value seek (e ∷ es) v h = grind (arith, below_with_value e.0 seek es v h.0, ascending_with_value seek es v h.1)

  module _ (o : IsTotalOrder R) {seek : K → Ordering} (finds : IsSearch R seek) (v : V) where
    with_value_above : (es : List (K × V)) → AllByRecursion (λ e. seek e.0 ≡ Less) es → with_value_by seek es v ≡ es
    with_value_above [] h = refl
    with_value_above (e ∷ es) h = rw h.0 (ap (λ t. e ∷ t) (with_value_above es h.1))

    pub with_value_less : (l : List (K × V)) (e : K × V) (r : List (K × V)) → IsAscending R (l ++ e ∷ r) → seek e.0 ≡ Less → with_value_by seek (l ++ e ∷ r) v ≡ with_value_by seek l v ++ e ∷ r
    with_value_less [] e r s h = rw h (ap (λ t. e ∷ t) (with_value_above r (under_through R o finds e.0 r h s.0)))
    with_value_less (x ∷ l) e r s h = grind (arith, with_value_less l e r s.1 h)

    pub with_value_equal : (l : List (K × V)) (e : K × V) (r : List (K × V)) → IsAscending R (l ++ e ∷ r) → seek e.0 ≡ Equal → with_value_by seek (l ++ e ∷ r) v ≡ l ++ (e.0, v) ∷ r
    with_value_equal [] e r s h = rw h
    with_value_equal (x ∷ l) e r s h = rw (over_tied o finds e.0 x.0 (below_middle R x.0 l e r s.0) h) (ap (λ t. x ∷ t) (with_value_equal l e r s.1 h))

    pub with_value_greater : (l : List (K × V)) (e : K × V) (r : List (K × V)) → IsAscending R (l ++ e ∷ r) → seek e.0 ≡ Greater → with_value_by seek (l ++ e ∷ r) v ≡ l ++ e ∷ with_value_by seek r v
    with_value_greater [] e r s h = rw h
    with_value_greater (x ∷ l) e r s h = rw (finds.above x.0 e.0 (below_middle R x.0 l e r s.0) h) (ap (λ t. x ∷ t) (with_value_greater l e r s.1 h))

-- nothing is found where there is no pair
pub none_in_empty : {K V : Type 0} (seek : K → Ordering) (es : List (K × V)) → length es ≡ 0 → find_by seek es ≡ None
none_in_empty seek [] h = refl
none_in_empty seek (e ∷ es) h = absurd (omega (arith, h))
