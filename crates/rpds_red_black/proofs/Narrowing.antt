-- An ascending list of pairs around one that is outside a range: the pairs within the range lie on one side of it.
use Rattle.std.specs.Prelude.{◌&&◌}
use Rattle.rpds_red_black.proofs.Words.{◌≡◌, Bool, true, false, List, [], ◌∷◌, ◌++◌, refl, ap, ◌∙◌, arith, append-nil, filter, filter-append, Ordering}
use Rattle.rpds_red_black.proofs.Words.{IsBelowAll, IsAboveAll, IsAscending, cmp_along}
use Rattle.rpds_red_black.proofs.Bounds.{IsUpward}
use Rattle.rpds_red_black.proofs.Pairs.{around}

-- a range of two tests: f holds above each key of which it holds, and g below
module _ {K V : Type 0} {R : K → K → Ordering} {f g : K → Bool} (up : IsUpward R f) (down : IsUpward (cmp_along true R) g) where
  abbrev inside : List (K × V) → List (K × V)
  inside es = filter (λ p. f p.0 && g p.0) es

  none_before : (k : K) (es : List (K × V)) → f k ≡ false → IsAboveAll R k es → inside es ≡ []
  none_before k [] p h = refl
  none_before k (e ∷ es) p h = grind (arith, up e.0 k h.0, p, none_before k es p h.1)

  none_after : (k : K) (es : List (K × V)) → g k ≡ false → IsBelowAll R k es → inside es ≡ []
  none_after k [] p h = refl
  none_after k (e ∷ es) p h = grind (arith, down e.0 k h.0, p, none_after k es p h.1)

  -- where a pair is before the start, those within the range come after it
  pub within_after : (l : List (K × V)) (e : K × V) (r : List (K × V)) → IsAscending R (l ++ e ∷ r) → f e.0 ≡ false → inside (l ++ e ∷ r) ≡ inside r
  within_after l e r asc p =
      filter-append (λ (p : K × V). f p.0 && g p.0) l (e ∷ r) ∙ ap (λ z. z ++ inside (e ∷ r)) (none_before e.0 l p (around R l e r asc).above) ∙ rw p refl

  -- where it is behind the end, they come before it
  pub within_before : (l : List (K × V)) (e : K × V) (r : List (K × V)) → IsAscending R (l ++ e ∷ r) → g e.0 ≡ false → inside (l ++ e ∷ r) ≡ inside l
  within_before l e r asc p =
      let none : inside (e ∷ r) ≡ [] = grind (arith, p, none_after e.0 r p (around R l e r asc).below) in
      filter-append (λ (p : K × V). f p.0 && g p.0) l (e ∷ r) ∙ ap (λ z. inside l ++ z) none ∙ append-nil (inside l)
