-- What a form of a key finds in a list of pairs whose keys ascend.
use Rattle.std.specs.Prelude.{◌≡◌, cond, List, [], ◌∷◌, ◌++◌, Some, None, filter}
use Rattle.std.specs.List.{AllByRecursion}
use Rattle.std.specs.Ordering.{is_eq, is_gt, is_lt}
use Rattle.std.specs.declared.cmp.Ordering.{Ordering}
use Rattle.std.specs.declared.cmp.Ordering.TheVariants.{Less, Equal, Greater}
use Rattle.std.proofs.Common.{refl, sym, ap, ◌∙◌}
use Rattle.rpds_core.specs.Keys.{IsSearch}
use Rattle.rpds_red_black.specs.Cuts.{items_of}
use Rattle.rpds_red_black.specs.Pairs.{IsAscending, IsBelowAll, find_by}

module _ {K V : Type 0} (q : K → Ordering) where
  -- the pairs below the form
  abbrev pub below_form : List (K × V) → List (K × V)
  below_form es = filter (λ e. is_gt (q e.0)) es

  -- the pairs above it
  abbrev pub above_form : List (K × V) → List (K × V)
  above_form es = filter (λ e. is_lt (q e.0)) es

  -- all pairs are above it
  abbrev pub IsUnderAll : List (K × V) → Type 0
  IsUnderAll es = AllByRecursion (λ e. q e.0 ≡ Less) es

  pub none_below : (es : List (K × V)) → IsUnderAll es → below_form es ≡ []
  none_below [] h = refl
  none_below (e ∷ es) h = ap (λ o. cond (is_gt o) (e ∷ below_form es) (below_form es)) h.0 ∙ none_below es h.1

  pub none_found : (es : List (K × V)) → IsUnderAll es → find_by q es ≡ None
  none_found [] h = refl
  none_found (e ∷ es) h = ap (λ o. cond (is_eq o) (Some e) (find_by q es)) h.0 ∙ none_found es h.1

  pub all_above : (es : List (K × V)) → IsUnderAll es → above_form es ≡ es
  all_above [] h = refl
  all_above (e ∷ es) h = ap (λ o. cond (is_lt o) (e ∷ above_form es) (above_form es)) h.0 ∙ ap (λ t. e ∷ t) (all_above es h.1)

  -- the parts of a list of one pair more
  one_more : (o : Ordering) (e : K × V) (es : List (K × V)) → (o ≡ Less → IsUnderAll es) → (o ≡ Equal → IsUnderAll es)
      → es ≡ below_form es ++ (items_of (find_by q es) ++ above_form es)
      → e ∷ es ≡ cond (is_gt o) (e ∷ below_form es) (below_form es)
      ++ (items_of (cond (is_eq o) (Some e) (find_by q es)) ++ cond (is_lt o) (e ∷ above_form es) (above_form es))
  one_more Less e es under tied parts =
      let h = under refl in
      sym (ap (λ z. z ++ (items_of (find_by q es) ++ e ∷ above_form es)) (none_below es h)
      ∙ ap (λ z. items_of z ++ e ∷ above_form es) (none_found es h) ∙ ap (λ z. e ∷ z) (all_above es h))
  one_more Equal e es under tied parts =
      let h = tied refl in
      sym (ap (λ z. z ++ e ∷ above_form es) (none_below es h) ∙ ap (λ z. e ∷ z) (all_above es h))
  one_more Greater e es under tied parts = ap (λ z. e ∷ z) parts

module _ {K V : Type 0} (R : K → K → Ordering) {q : K → Ordering} (finds : IsSearch R q) where
  pub under_through : (j : K) (es : List (K × V)) → q j ≡ Less → IsBelowAll R j es → IsUnderAll q es
  under_through j [] p h = tt
  under_through j (e ∷ es) p h = (finds.below j e.0 p h.0, under_through j es p h.1)

  pub under_tied : (j : K) (es : List (K × V)) → q j ≡ Equal → IsBelowAll R j es → IsUnderAll q es
  under_tied j [] p h = tt
  under_tied j (e ∷ es) p h = (finds.tied j e.0 p ∙ h.0, under_tied j es p h.1)

  -- what is below the form, what it finds and what is above it are all
  pub key_parts : (es : List (K × V)) → IsAscending R es → es ≡ below_form q es ++ (items_of (find_by q es) ++ above_form q es)
  key_parts [] h = refl
  key_parts (e ∷ es) h = one_more q (q e.0) e es (λ p. under_through e.0 es p h.0) (λ p. under_tied e.0 es p h.0) (key_parts es h.1)
