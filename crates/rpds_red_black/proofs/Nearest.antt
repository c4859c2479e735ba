-- The nearest pair on a walk that starts at a key.
use Rattle.std.proofs.lemmas.List.{append-nil}
use Rattle.rpds_red_black.specs.Neighbors.{floor_form}
use Rattle.rpds_red_black.proofs.Words.{◌≡◌, suc, ◌-◌, Bool, true, false, List, [], ◌∷◌, ◌++◌, Option, Some, None, length, reverse, slice_get, refl, sym, ap, ◌∙◌}
use Rattle.rpds_red_black.proofs.Words.{arith, length-append, reverse-append, reverse-reverse, filter-append, filter, Ordering, is_le}
use Rattle.rpds_red_black.proofs.Words.{IsAscending}
use Rattle.rpds_red_black.proofs.Bounds.{IsUpward, sought_inside, sought_outside}
use Rattle.rpds_red_black.proofs.PairPositions.{at_own}

-- what a search has still to look at and the pairs that it passed, of which the nearest one comes first, are all that it looks for
pub record IsNearest {T : Type 0} (nearest : Option T) (sought whole : List T) : Type 0 where
  pub later : List T
  pub first : nearest ≡ slice_get later 0
  pub rest : sought ++ later ≡ whole

module _ {T : Type 0} where
  first_is_last : (es : List T) → slice_get es 0 ≡ slice_get (reverse es) (length (reverse es) - 1)
  first_is_last [] = refl
  first_is_last (e ∷ es) =
      let turned = reverse-append (e ∷ []) es in
      let end : length (reverse (e ∷ es)) - 1 ≡ length (reverse es) = omega (arith, ap length turned, length-append (reverse es) (e ∷ [])) in
      sym (ap (λ i. slice_get (reverse (e ∷ es)) i) end ∙ ap (λ z. slice_get z (length (reverse es))) turned ∙ at_own (reverse es) [] e)

  -- the first item from the back is the last one
  pub last_is : (es : List T) → slice_get (reverse es) 0 ≡ slice_get es (length es - 1)
  last_is es = first_is_last (reverse es) ∙ ap (λ z. slice_get z (length z - 1)) (reverse-reverse es)

  -- the last item has all others before it
  behind_one : (x e : T) (es : List T) → (before : List T) × (es ≡ before ++ e ∷ []) → (before : List T) × (x ∷ es ≡ before ++ e ∷ [])
  behind_one x e es (before, is) = (x ∷ before, ap (λ z. x ∷ z) is)

  pub last_behind : (es : List T) (e : T) → slice_get es (length es - 1) ≡ Some e → (before : List T) × (es ≡ before ++ e ∷ [])
  last_behind [] e is = absurd (cc)
  last_behind (x ∷ []) e is = (let same : x ≡ e = cc in ([], ap (λ z. z ∷ []) same))
  last_behind (x ∷ y ∷ es) e is =
      let place : length (x ∷ y ∷ es) - 1 ≡ suc (length (y ∷ es) - 1) = omega arith in
      behind_one x e (y ∷ es) (last_behind (y ∷ es) e (sym (ap (λ i. slice_get (x ∷ y ∷ es) i) place) ∙ is))

  pub no_last : (es : List T) → slice_get es (length es - 1) ≡ None → es ≡ []
  no_last [] is = refl
  no_last (x ∷ []) is = absurd (cc)
  no_last (x ∷ y ∷ es) is =
      let place : length (x ∷ y ∷ es) - 1 ≡ suc (length (y ∷ es) - 1) = omega arith in
      let none : y ∷ es ≡ [] = no_last (y ∷ es) (sym (ap (λ i. slice_get (x ∷ y ∷ es) i) place) ∙ is) in
      absurd (cc)

  pub first_before : (es : List T) (e : T) → slice_get es 0 ≡ Some e → (after : List T) × (es ≡ e ∷ after)
  first_before [] e is = absurd (cc)
  first_before (x ∷ es) e is = (let same : x ≡ e = cc in (es, ap (λ z. z ∷ es) same))

  pub no_first : (es : List T) → slice_get es 0 ≡ None → es ≡ []
  no_first [] is = refl
  no_first (x ∷ es) is = absurd (cc)

  filter_reverse : (p : T → Bool) (es : List T) → filter p (reverse es) ≡ reverse (filter p es)
  filter_reverse p [] = refl
  filter_reverse p (e ∷ es) =
      let turned = ap (λ z. filter p z) (reverse-append (e ∷ []) es) ∙ filter-append p (reverse es) (e ∷ [])
      ∙ ap (λ z. z ++ filter p (e ∷ [])) (filter_reverse p es) in
      elim (p e) as (λ b. p e ≡ b → filter p (reverse (e ∷ es)) ≡ reverse (filter p (e ∷ es))) [
        | true ↦ λ h. turned ∙ rw h (sym (reverse-append (e ∷ []) (filter p es)))
        | false ↦ λ h. turned ∙ rw h (append-nil (reverse (filter p es)))
      ] refl

module _ {K V : Type 0} {R : K → K → Ordering} {test : K → Bool} (up : IsUpward R test) {nearest : Option (K × V)} {all whole : List (K × V)} (l : List (K × V))
    (e : K × V) (r : List (K × V)) (is : all ≡ l ++ e ∷ r) (asc : IsAscending R all) (found : IsNearest nearest (filter (λ p. test p.0) all) whole) where
  -- at a pair that is looked for, which is nearer than those that were passed
  pub nearest_inside : test e.0 ≡ true → IsAscending R l × IsNearest (Some e) (filter (λ p. test p.0) l) whole
  nearest_inside h =
      let left = sought_inside up all l e r found.later whole is asc h found.rest in
      (left.0, record { later = e ∷ (r ++ found.later); first = refl; rest = left.1 })

  -- at one that isn't
  pub nearest_outside : test e.0 ≡ false → IsAscending R r × IsNearest nearest (filter (λ p. test p.0) r) whole
  nearest_outside h =
      let left = sought_outside up all l e r found.later whole is asc h found.rest in
      (left.0, record { later = found.later; first = found.first; rest = left.1 })

-- from the back, that is the last pair of the range up to the key
pub floor_is : {S K V : Type 0} (order : S → K → Ordering) (turned : K → S → Ordering) (s : S) (es : List (K × V))
    → slice_get (filter (λ p. is_le (turned p.0 s)) (reverse es)) 0 ≡ floor_form order turned s es
floor_is order turned s es = ap (λ z. slice_get z 0) (filter_reverse (λ p. is_le (turned p.0 s)) es) ∙ last_is (filter (λ p. is_le (turned p.0 s)) es)
