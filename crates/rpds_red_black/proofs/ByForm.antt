-- Pairs around a middle one, as a form of a key sees them.
use Rattle.rpds_red_black.specs.KeySeeks.{above_form, all_above, below_form, key_parts, none_below, under_through, under_tied}
use Rattle.rpds_red_black.specs.declared.split.Split.{Split}
use Rattle.rpds_red_black.specs.Join.{IsSplit}
use Rattle.rpds_red_black.proofs.Words.{◌≡◌, ◌≤◌, cond, List, [], ◌∷◌, ◌++◌, Option, Some, None, IfSome, append-nil, refl, ap, ◌∙◌, Ordering, Less, Equal, Greater}
use Rattle.rpds_red_black.proofs.Words.{is_gt, is_lt, ordering_reverse, IsTotalOrder, IsSearch, own_search, filter-append, IsAscending, IsAboveAll, IsBelowAll}
use Rattle.rpds_red_black.proofs.Words.{find, without_by, pair_lent, rank, Shape}
use Rattle.rpds_red_black.proofs.Pairs.{around, below_middle, find_tied, over_tied}

module _ {K V : Type 0} (R : K → K → Ordering) (o : IsTotalOrder R) {q : K → Ordering} (finds : IsSearch R q) where
  pub below_less : (l : List (K × V)) (e : K × V) (r : List (K × V)) → IsAscending R (l ++ e ∷ r) → q e.0 ≡ Less → below_form q (l ++ e ∷ r) ≡ below_form q l
  below_less l e r s h =
      let none = none_below q r (under_through R finds e.0 r h (around R l e r s).below) in
      filter-append (λ (p : K × V). is_gt (q p.0)) l (e ∷ r) ∙ ap (λ t. below_form q l ++ t) (rw h none) ∙ append-nil (below_form q l)

  pub above_less : (l : List (K × V)) (e : K × V) (r : List (K × V)) → IsAscending R (l ++ e ∷ r) → q e.0 ≡ Less → above_form q (l ++ e ∷ r) ≡ above_form q l ++ e ∷ r
  above_less l e r s h =
      let all = all_above q r (under_through R finds e.0 r h (around R l e r s).below) in
      filter-append (λ (p : K × V). is_lt (q p.0)) l (e ∷ r) ∙ ap (λ t. above_form q l ++ t) (rw h (ap (λ t. e ∷ t) all))

  pub below_equal : (l : List (K × V)) (e : K × V) (r : List (K × V)) → IsAscending R (l ++ e ∷ r) → q e.0 ≡ Equal → below_form q (l ++ e ∷ r) ≡ l
  below_equal [] e r s h = rw h (none_below q r (under_tied R finds e.0 r h s.0))
  below_equal (x ∷ l) e r s h = rw (over_tied o finds e.0 x.0 (below_middle R x.0 l e r s.0) h) (ap (λ t. x ∷ t) (below_equal l e r s.1 h))

  pub above_equal : (l : List (K × V)) (e : K × V) (r : List (K × V)) → IsAscending R (l ++ e ∷ r) → q e.0 ≡ Equal → above_form q (l ++ e ∷ r) ≡ r
  above_equal [] e r s h = rw h (all_above q r (under_tied R finds e.0 r h s.0))
  above_equal (x ∷ l) e r s h = rw (over_tied o finds e.0 x.0 (below_middle R x.0 l e r s.0) h) (above_equal l e r s.1 h)

  pub below_greater : (l : List (K × V)) (e : K × V) (r : List (K × V)) → IsAscending R (l ++ e ∷ r) → q e.0 ≡ Greater → below_form q (l ++ e ∷ r) ≡ l ++ e ∷ below_form q r
  below_greater [] e r s h = rw h refl
  below_greater (x ∷ l) e r s h = rw (finds.above x.0 e.0 (below_middle R x.0 l e r s.0) h) (ap (λ t. x ∷ t) (below_greater l e r s.1 h))

  pub above_greater : (l : List (K × V)) (e : K × V) (r : List (K × V)) → IsAscending R (l ++ e ∷ r) → q e.0 ≡ Greater → above_form q (l ++ e ∷ r) ≡ above_form q r
  above_greater [] e r s h = rw h refl
  above_greater (x ∷ l) e r s h = rw (finds.above x.0 e.0 (below_middle R x.0 l e r s.0) h) (above_greater l e r s.1 h)

  others_step : (c : Ordering) (e : K × V) (es : List (K × V)) → q e.0 ≡ c → IsAscending R (e ∷ es) → without_by q es ≡ below_form q es ++ above_form q es
      → without_by q (e ∷ es) ≡ below_form q (e ∷ es) ++ above_form q (e ∷ es)
  others_step Less e es h s rest =
      let under = under_through R finds e.0 es h s.0 in
      let none = none_below q es under in
      let all = all_above q es under in
      rw (h, none, all) (ap (λ t. e ∷ t) (rw (none, all) at rest))
  others_step Equal e es h s rest = rw h rest
  others_step Greater e es h s rest = rw h (ap (λ t. e ∷ t) rest)

  -- the pairs but the one that is found
  pub others_parts : (es : List (K × V)) → IsAscending R es → without_by q es ≡ below_form q es ++ above_form q es
  others_parts [] s = refl
  others_parts (e ∷ es) s = others_step (q e.0) e es refl s (others_parts es s.1)

-- a key finds itself
module _ {K V : Type 0} (R : K → K → Ordering) (o : IsTotalOrder R) (k : K) where
  below_step : (c : Ordering) (e : K × V) (rest : List (K × V)) → R k e.0 ≡ c → IsAboveAll R k rest → IsAboveAll R k (cond (is_gt c) (e ∷ rest) rest)
  below_step Less e rest h all = all
  below_step Equal e rest h all = all
  below_step Greater e rest h all = (o.antisymm e.0 k ∙ ap ordering_reverse h, all)

  below_are_below : (es : List (K × V)) → IsAboveAll R k (below_form (R k) es)
  below_are_below [] = tt
  below_are_below (e ∷ es) = below_step (R k e.0) e (below_form (R k) es) refl (below_are_below es)

  above_step : (c : Ordering) (e : K × V) (rest : List (K × V)) → R k e.0 ≡ c → IsBelowAll R k rest → IsBelowAll R k (cond (is_lt c) (e ∷ rest) rest)
  above_step Less e rest h all = (h, all)
  above_step Equal e rest h all = all
  above_step Greater e rest h all = all

  above_are_above : (es : List (K × V)) → IsBelowAll R k (above_form (R k) es)
  above_are_above [] = tt
  above_are_above (e ∷ es) = above_step (R k e.0) e (above_form (R k) es) refl (above_are_above es)

  found_is_tied : (es : List (K × V)) (f : Option (K × V)) → find R k es ≡ f → IfSome f (λ p. R k p.0 ≡ Equal)
  found_is_tied es None h = tt
  found_is_tied es (Some p) h = find_tied o k es p h

  -- a tree that was cut there
  pub split_at_key : {A : Type 0} (t : Shape K V) (s : Split K V A) → IsAscending R t.entries → s.before.entries ≡ below_form (R k) t.entries
      → pair_lent s.found ≡ find R k t.entries → s.after.entries ≡ above_form (R k) t.entries → rank s.before ≤ rank t → rank s.after ≤ rank t → IsSplit R k t s
  split_at_key t s asc before found after before_low after_low = record {
    cut = rw (before, found, after) record {
      same = key_parts R (own_search o k) t.entries asc;
      below = below_are_below t.entries;
      tied = found_is_tied t.entries (find R k t.entries) refl;
      above = above_are_above t.entries;
    };
    before_low = before_low;
    after_low = after_low;
  }
