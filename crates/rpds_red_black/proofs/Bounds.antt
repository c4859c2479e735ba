-- Ascending lists of pairs, around a bound.
use Rattle.rpds_red_black.proofs.Words.{◌≡◌, Bool, true, false, List, [], ◌∷◌, ◌++◌, refl, sym, ap, subst, ◌∙◌, append_assoc, filter-append}
use Rattle.rpds_red_black.proofs.Words.{filter, Ordering, Less, IsBelowAll, IsAboveAll}
use Rattle.rpds_red_black.proofs.Words.{IsAscending, arith}
use Rattle.rpds_red_black.proofs.Pairs.{around}

-- a test that holds of each key above one of which it holds
abbrev pub IsUpward : {K : Type 0} → (K → K → Ordering) → (K → Bool) → Type 0
IsUpward {K} R test = (j k : K) → R j k ≡ Less → test j ≡ true → test k ≡ true

-- below a key that fails such a test each key fails it
failing_below : {K : Type 0} {R : K → K → Ordering} {test : K → Bool} → IsUpward R test → (j k : K) → R j k ≡ Less → test k ≡ false → test j ≡ false
failing_below up j k less p = grind (arith, up j k less)

-- a list around a pair, under such a test
module _ {K V : Type 0} {R : K → K → Ordering} {test : K → Bool} (up : IsUpward R test) where
  abbrev passing : List (K × V) → List (K × V)
  passing es = filter (λ p. test p.0) es

  -- of the pairs above a key that passes, the filter drops none
  pub all_pass : (k : K) (es : List (K × V)) → test k ≡ true → IsBelowAll R k es → passing es ≡ es
  all_pass k [] p h = refl
  all_pass k (e ∷ es) p h = rw (up k e.0 h.0 p) (ap (λ l. e ∷ l) (all_pass k es p h.1))

  -- of the pairs below a key that fails, the filter keeps none
  none_pass : (k : K) (es : List (K × V)) → test k ≡ false → IsAboveAll R k es → passing es ≡ []
  none_pass k [] p h = refl
  none_pass k (e ∷ es) p h = rw (failing_below up e.0 k h.0 p) (none_pass k es p h.1)

  -- around a pair that passes, those after it all do
  pub around_passing : (l : List (K × V)) (e : K × V) (r : List (K × V)) → IsAscending R (l ++ e ∷ r) → test e.0 ≡ true → passing (l ++ e ∷ r) ≡ passing l ++ e ∷ r
  around_passing l e r asc p =
      filter-append (λ (p : K × V). test p.0) l (e ∷ r) ∙ ap (λ z. passing l ++ z) (rw p (ap (λ z. e ∷ z) (all_pass e.0 r p (around R l e r asc).below)))

  -- around a pair that fails, those before it all do
  pub around_failing : (l : List (K × V)) (e : K × V) (r : List (K × V)) → IsAscending R (l ++ e ∷ r) → test e.0 ≡ false → passing (l ++ e ∷ r) ≡ passing r
  around_failing l e r asc p =
      filter-append (λ (p : K × V). test p.0) l (e ∷ r) ∙ ap (λ z. z ++ passing (e ∷ r)) (none_pass e.0 l p (around R l e r asc).above) ∙ rw p refl

  -- what a search finds at a pair that passes: the pair, all after it, and what it finds before it
  pub sought_inside : (all l : List (K × V)) (e : K × V) (r later whole : List (K × V)) → all ≡ l ++ e ∷ r → IsAscending R all → test e.0 ≡ true → passing all ++ later ≡ whole → IsAscending R l × (passing l ++ e ∷ (r ++ later) ≡ whole)
  sought_inside all l e r later whole is asc p found =
      let asc' = subst (λ z. IsAscending R z) is asc in
      ((around R l e r asc').left, sym (append_assoc (passing l) (e ∷ r) later) ∙ ap (λ z. z ++ later) (sym (ap passing is ∙ around_passing l e r asc' p)) ∙ found)

  -- at a pair that fails: what it finds after it
  pub sought_outside : (all l : List (K × V)) (e : K × V) (r later whole : List (K × V)) → all ≡ l ++ e ∷ r → IsAscending R all → test e.0 ≡ false → passing all ++ later ≡ whole → IsAscending R r × (passing r ++ later ≡ whole)
  sought_outside all l e r later whole is asc p found =
      let asc' = subst (λ z. IsAscending R z) is asc in
      ((around R l e r asc').right, ap (λ z. z ++ later) (sym (ap passing is ∙ around_failing l e r asc' p)) ∙ found)
