-- Lists of pairs around a pair in their middle.
use Rattle.std.proofs.Common.{IsNone}
use Rattle.std.specs.List.{AllByRecursion}
use Rattle.rpds_red_black.proofs.Words.{◌≡◌, ◌≢◌, ◌≤◌, ◌+◌, length, arith, Some, None, Bool, not, true, false≢true, is_some, cond, List, [], ◌∷◌, ◌++◌, refl, ap, ◌∙◌, Ordering, Less, Equal}
use Rattle.rpds_red_black.proofs.Words.{Greater, is_eq, ordering_reverse, IsTotalOrder, filter, filter-append, IsBelowAll, IsAboveAll, IsAscending, find, find_by, put}
use Rattle.rpds_red_black.proofs.Words.{put_all, without, without_by, IsSearch, own_search}

-- the pairs before e, and those after it
pub record IsAround {K V : Type 0} (R : K → K → Ordering) (l : List (K × V)) (e : K × V) (r : List (K × V)) : Type 0 where
  pub left : IsAscending R l
  pub above : IsAboveAll R e.0 l
  pub below : IsBelowAll R e.0 r
  pub right : IsAscending R r

module _ {K : Type 0} {R : K → K → Ordering} (o : IsTotalOrder R) where
  -- a key at or above e is above all before it
  pub after : (k j x : K) → R x j ≡ Less → R k j ≡ Greater → R k x ≡ Greater
  after k j x p q =
      let back : R j k ≡ Less = o.antisymm j k ∙ ap ordering_reverse q in
      o.antisymm k x ∙ ap ordering_reverse (o.trans x j k p back)

  pub after_tied : (k j x : K) → R x j ≡ Less → R k j ≡ Equal → R k x ≡ Greater
  after_tied k j x p q = o.congr k j x q ∙ o.antisymm j x ∙ ap ordering_reverse p

  tied : (k : K) → R k k ≡ Equal
  tied k = grind (arith, o.antisymm k k)

  tied_through : (j k x : K) → R k x ≡ Equal → R j x ≡ Equal → R k j ≡ Equal
  tied_through j k x p q = o.congr k x j p ∙ o.antisymm x j ∙ ap ordering_reverse q

module _ {K : Type 0} {R : K → K → Ordering} (o : IsTotalOrder R) {seek : K → Ordering} (finds : IsSearch R seek) where
  -- what is tied with a key is above what is below that
  pub over_tied : (j x : K) → R x j ≡ Less → seek j ≡ Equal → seek x ≡ Greater
  over_tied j x p h = finds.tied j x h ∙ o.antisymm j x ∙ ap ordering_reverse p

-- no pair is left out where none is found
pub others_absent : {K V : Type 0} (seek : K → Ordering) (es : List (K × V)) → IsNone (find_by seek es) → without_by seek es ≡ es
others_absent seek [] h = refl
others_absent seek (e ∷ es) h = grind (arith, others_absent seek es)

module _ {K V : Type 0} (R : K → K → Ordering) where
  pub below_front : (k : K) (l m : List (K × V)) → IsBelowAll R k (l ++ m) → IsBelowAll R k l
  below_front k [] m h = tt
  below_front k (x ∷ l) m h = (h.0, below_front k l m h.1)

  pub below_middle : (k : K) (l : List (K × V)) (e : K × V) (r : List (K × V)) → IsBelowAll R k (l ++ e ∷ r) → R k e.0 ≡ Less
  below_middle k [] e r h = h.0
  below_middle k (x ∷ l) e r h = below_middle k l e r h.1

  pub around : (l : List (K × V)) (e : K × V) (r : List (K × V)) → IsAscending R (l ++ e ∷ r) → IsAround R l e r
  around [] e r h = record { left = tt; above = tt; below = h.0; right = h.1 }
  around (x ∷ l) e r h =
      let rest = around l e r h.1 in
      record { left = (below_front x.0 l (e ∷ r) h.0, rest.left); above = (below_middle x.0 l e r h.0, rest.above); below = rest.below; right = rest.right }

  -- what is looked for, among pairs around e
  module _ (o : IsTotalOrder R) {seek : K → Ordering} (finds : IsSearch R seek) where
    -- it is below all of them
    abbrev IsUnder : List (K × V) → Type 0
    IsUnder es = AllByRecursion (λ e. seek e.0 ≡ Less) es

    sought_none : (es : List (K × V)) → IsUnder es → find_by seek es ≡ None
    sought_none [] h = refl
    sought_none (e ∷ es) h = rw h.0 (sought_none es h.1)

    others_all : (es : List (K × V)) → IsUnder es → without_by seek es ≡ es
    others_all [] h = refl
    others_all (e ∷ es) h = rw h.0 (ap (λ t. e ∷ t) (others_all es h.1))

    pub under_through : (j : K) (es : List (K × V)) → seek j ≡ Less → IsBelowAll R j es → IsUnder es
    under_through j [] p h = tt
    under_through j (e ∷ es) p h = (finds.below j e.0 p h.0, under_through j es p h.1)

    under_tied : (j : K) (es : List (K × V)) → seek j ≡ Equal → IsBelowAll R j es → IsUnder es
    under_tied j [] p h = tt
    under_tied j (e ∷ es) p h = (finds.tied j e.0 p ∙ h.0, under_tied j es p h.1)

    pub sought_less : (l : List (K × V)) (e : K × V) (r : List (K × V)) → IsAscending R (l ++ e ∷ r) → seek e.0 ≡ Less → find_by seek (l ++ e ∷ r) ≡ find_by seek l
    sought_less [] e r h p = rw p (sought_none r (under_through e.0 r p h.0))
    sought_less (x ∷ l) e r h p = ap (cond (is_eq (seek x.0)) (Some x)) (sought_less l e r h.1 p)

    pub sought_equal : (l : List (K × V)) (e : K × V) (r : List (K × V)) → IsAscending R (l ++ e ∷ r) → seek e.0 ≡ Equal → find_by seek (l ++ e ∷ r) ≡ Some e
    sought_equal [] e r h p = rw p
    sought_equal (x ∷ l) e r h p = rw (over_tied o finds e.0 x.0 (below_middle x.0 l e r h.0) p) (sought_equal l e r h.1 p)

    pub sought_greater : (l : List (K × V)) (e : K × V) (r : List (K × V)) → IsAscending R (l ++ e ∷ r) → seek e.0 ≡ Greater → find_by seek (l ++ e ∷ r) ≡ find_by seek r
    sought_greater [] e r h p = rw p
    sought_greater (x ∷ l) e r h p = rw (finds.above x.0 e.0 (below_middle x.0 l e r h.0) p) (sought_greater l e r h.1 p)

    pub others_less : (l : List (K × V)) (e : K × V) (r : List (K × V)) → IsAscending R (l ++ e ∷ r) → seek e.0 ≡ Less → without_by seek (l ++ e ∷ r) ≡ without_by seek l ++ e ∷ r
    others_less l e r s h =
        let after = others_all r (under_through e.0 r h (around l e r s).below) in
        filter-append (λ (p : K × V). not (is_eq (seek p.0))) l (e ∷ r) ∙ ap (λ t. without_by seek l ++ t) (rw h (ap (λ t. e ∷ t) after))

    pub others_equal : (l : List (K × V)) (e : K × V) (r : List (K × V)) → IsAscending R (l ++ e ∷ r) → seek e.0 ≡ Equal → without_by seek (l ++ e ∷ r) ≡ l ++ r
    others_equal [] e r s h = rw h (others_all r (under_tied e.0 r h s.0))
    others_equal (x ∷ l) e r s h = rw (over_tied o finds e.0 x.0 (below_middle x.0 l e r s.0) h) (ap (λ t. x ∷ t) (others_equal l e r s.1 h))

    pub others_greater : (l : List (K × V)) (e : K × V) (r : List (K × V)) → IsAscending R (l ++ e ∷ r) → seek e.0 ≡ Greater → without_by seek (l ++ e ∷ r) ≡ l ++ e ∷ without_by seek r
    others_greater [] e r s h = rw h
    others_greater (x ∷ l) e r s h = rw (finds.above x.0 e.0 (below_middle x.0 l e r s.0) h) (ap (λ t. x ∷ t) (others_greater l e r s.1 h))

    -- a pair less
    pub length_of_others : (es : List (K × V)) → IsAscending R es → is_some (find_by seek es) ≡ true → length es ≡ length (without_by seek es) + 1
    length_of_others [] s f = absurd (false≢true f)
    length_of_others (e ∷ es) s f = grind (arith, length_of_others es s.1, others_equal [] e es s)

  module _ (o : IsTotalOrder R) where
    pub find_below : (k : K) (es : List (K × V)) → IsBelowAll R k es → find R k es ≡ None
    find_below k [] h = refl
    find_below k (e ∷ es) h = rw h.0 (find_below k es h.1)

    -- a key below e is below all after it
    pub below_through : (k j : K) (es : List (K × V)) → R k j ≡ Less → IsBelowAll R j es → IsBelowAll R k es
    below_through k j [] p h = tt
    below_through k j (e ∷ es) p h = (o.trans k j e.0 p h.0, below_through k j es p h.1)

    pub find_less : (k : K) (l : List (K × V)) (e : K × V) (r : List (K × V)) → IsAscending R (l ++ e ∷ r) → R k e.0 ≡ Less → find R k (l ++ e ∷ r) ≡ find R k l
    find_less k = sought_less o (own_search o k)

    pub find_equal : (k : K) (l : List (K × V)) (e : K × V) (r : List (K × V)) → IsAscending R (l ++ e ∷ r) → R k e.0 ≡ Equal → find R k (l ++ e ∷ r) ≡ Some e
    find_equal k = sought_equal o (own_search o k)

    pub find_greater : (k : K) (l : List (K × V)) (e : K × V) (r : List (K × V)) → IsAscending R (l ++ e ∷ r) → R k e.0 ≡ Greater → find R k (l ++ e ∷ r) ≡ find R k r
    find_greater k = sought_greater o (own_search o k)

    pub put_less : (p : K × V) (l : List (K × V)) (e : K × V) (r : List (K × V)) → R p.0 e.0 ≡ Less → put R p (l ++ e ∷ r) ≡ put R p l ++ e ∷ r
    put_less p [] e r h = rw h
    put_less p (x ∷ l) e r h = grind (arith, put_less p l e r h)

    pub put_equal : (p : K × V) (l : List (K × V)) (e : K × V) (r : List (K × V)) → IsAscending R (l ++ e ∷ r) → R p.0 e.0 ≡ Equal → put R p (l ++ e ∷ r) ≡ l ++ p ∷ r
    put_equal p [] e r s h = rw h
    put_equal p (x ∷ l) e r s h = rw (after_tied o p.0 e.0 x.0 (below_middle x.0 l e r s.0) h) (ap (λ t. x ∷ t) (put_equal p l e r s.1 h))

    pub put_greater : (p : K × V) (l : List (K × V)) (e : K × V) (r : List (K × V)) → IsAscending R (l ++ e ∷ r) → R p.0 e.0 ≡ Greater → put R p (l ++ e ∷ r) ≡ l ++ e ∷ put R p r
    put_greater p [] e r s h = rw h
    put_greater p (x ∷ l) e r s h = rw (after o p.0 e.0 x.0 (below_middle x.0 l e r s.0) h) (ap (λ t. x ∷ t) (put_greater p l e r s.1 h))

    pub below_put : (k : K) (p : K × V) (es : List (K × V)) → R k p.0 ≡ Less → IsBelowAll R k es → IsBelowAll R k (put R p es)
    below_put k p [] h b = (h, tt)
    below_put k p (e ∷ es) h b = grind (arith, below_put k p es h b.1)

    pub below_tied : (k j : K) (es : List (K × V)) → R k j ≡ Equal → IsBelowAll R j es → IsBelowAll R k es
    below_tied k j [] p h = tt
    below_tied k j (e ∷ es) p h = (o.congr k j e.0 p ∙ h.0, below_tied k j es p h.1)

    pub ascending_put : (p : K × V) (es : List (K × V)) → IsAscending R es → IsAscending R (put R p es)
    ascending_put p [] s = (tt, tt)
    ascending_put p (e ∷ es) s = grind (arith, below_through p.0 e.0 es, below_tied p.0 e.0 es, below_put e.0 p es, o.antisymm e.0 p.0, ascending_put p es s.1)

    pub find_put : (p : K × V) (es : List (K × V)) → find R p.0 (put R p es) ≡ Some p
    find_put p [] = rw (tied o p.0) refl
    find_put p (e ∷ es) = grind (arith, tied o p.0, find_put p es)

    pub without_put : (p : K × V) (es : List (K × V)) → without R p.0 (put R p es) ≡ without R p.0 es
    without_put p [] = rw (tied o p.0) refl
    without_put p (e ∷ es) = grind (arith, tied o p.0, without_put p es)

    pub find_without : (k : K) (es : List (K × V)) → find R k (without R k es) ≡ None
    find_without k [] = refl
    find_without k (e ∷ es) = grind (arith, find_without k es)

    pub find_without_other : (j k : K) (es : List (K × V)) → R k j ≢ Equal → find R j (without R k es) ≡ find R j es
    find_without_other j k [] apart = refl
    find_without_other j k (e ∷ es) apart = grind (arith, find_without_other j k es apart, tied_through o j k e.0)

    pub without_less : (k : K) (l : List (K × V)) (e : K × V) (r : List (K × V)) → IsAscending R (l ++ e ∷ r) → R k e.0 ≡ Less → without R k (l ++ e ∷ r) ≡ without R k l ++ e ∷ r
    without_less k = others_less o (own_search o k)

    pub without_equal : (k : K) (l : List (K × V)) (e : K × V) (r : List (K × V)) → IsAscending R (l ++ e ∷ r) → R k e.0 ≡ Equal → without R k (l ++ e ∷ r) ≡ l ++ r
    without_equal k = others_equal o (own_search o k)

    pub without_greater : (k : K) (l : List (K × V)) (e : K × V) (r : List (K × V)) → IsAscending R (l ++ e ∷ r) → R k e.0 ≡ Greater → without R k (l ++ e ∷ r) ≡ l ++ e ∷ without R k r
    without_greater k = others_greater o (own_search o k)

  -- no pair is left out where the key isn't there
  pub without_absent : (k : K) (es : List (K × V)) → IsNone (find R k es) → without R k es ≡ es
  without_absent k = others_absent (R k)

  pub below_filter : (test : K × V → Bool) (k : K) (es : List (K × V)) → IsBelowAll R k es → IsBelowAll R k (filter test es)
  below_filter test k [] h = tt
  below_filter test k (e ∷ es) h = grind (arith, below_filter test k es h.1)

  pub ascending_filter : (test : K × V → Bool) (es : List (K × V)) → IsAscending R es → IsAscending R (filter test es)
  ascending_filter test [] s = tt
  ascending_filter test (e ∷ es) s = grind (arith, below_filter test e.0 es s.0, ascending_filter test es s.1)

  pub ascending_others : (seek : K → Ordering) (es : List (K × V)) → IsAscending R es → IsAscending R (without_by seek es)
  ascending_others seek es s = ascending_filter (λ p. not (is_eq (seek p.0))) es s

  pub ascending_without : (k : K) (es : List (K × V)) → IsAscending R es → IsAscending R (without R k es)
  ascending_without k = ascending_others (R k)

  pub put_all_last : (es ps : List (K × V)) (p : K × V) → put_all R es (ps ++ p ∷ []) ≡ put R p (put_all R es ps)
  put_all_last es [] p = refl
  put_all_last es (q ∷ ps) p = put_all_last (put R q es) ps p

  pub length_put : (p : K × V) (es : List (K × V)) → length (put R p es) ≤ length es + 1
  length_put p [] = omega arith
  length_put p (e ∷ es) = grind (arith, length_put p es)

module _ {K V : Type 0} {R : K → K → Ordering} (o : IsTotalOrder R) where
  -- equal keys find the same
  pub find_same : (j k : K) (es : List (K × V)) → R j k ≡ Equal → find R j es ≡ find R k es
  find_same j k [] h = refl
  find_same j k (e ∷ es) h = rw (o.congr j k e.0 h) (ap (cond (is_eq (R k e.0)) (Some e)) (find_same j k es h))

  pub find_tied : (k : K) (es : List (K × V)) (p : K × V) → find R k es ≡ Some p → R k p.0 ≡ Equal
  find_tied k [] p found = absurd (cc)
  find_tied k (e ∷ es) p found = grind (arith, find_tied k es p)
