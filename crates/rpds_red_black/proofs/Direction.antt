-- Lists of pairs in the order of a walk.
use Rattle.rpds_red_black.proofs.Words.{◌≡◌, Bool, true, false, List, [], ◌∷◌, ◌++◌, reverse, sym, subst, reverse-append, Ordering, Less}
use Rattle.rpds_red_black.proofs.Words.{IsBelowAll, IsAboveAll, IsAscending, along, cmp_along}

module _ {K : Type 0} (R : K → K → Ordering) where
  module _ {V : Type 0} where
    above_push : (k : K) (es : List (K × V)) (e : K × V) → IsAboveAll (cmp_along true R) k es → R k e.0 ≡ Less → IsAboveAll (cmp_along true R) k (es ++ e ∷ [])
    above_push k [] e h p = (p, tt)
    above_push k (x ∷ es) e h p = (h.0, above_push k es e h.1 p)

    above_reverse : (k : K) (es : List (K × V)) → IsBelowAll R k es → IsAboveAll (cmp_along true R) k (reverse es)
    above_reverse k [] h = tt
    above_reverse k (e ∷ es) h = subst (λ l. IsAboveAll (cmp_along true R) k l) (sym (reverse-append (e ∷ []) es)) (above_push k (reverse es) e (above_reverse k es h.1) h.0)

    below_push : (k : K) (es : List (K × V)) (e : K × V) → IsBelowAll (cmp_along true R) k es → R e.0 k ≡ Less → IsBelowAll (cmp_along true R) k (es ++ e ∷ [])
    below_push k [] e h p = (p, tt)
    below_push k (x ∷ es) e h p = (h.0, below_push k es e h.1 p)

    ascending_push : (es : List (K × V)) (e : K × V) → IsAscending (cmp_along true R) es → IsAboveAll (cmp_along true R) e.0 es → IsAscending (cmp_along true R) (es ++ e ∷ [])
    ascending_push [] e h above = (tt, tt)
    ascending_push (x ∷ es) e h above = (below_push x.0 es e h.0 above.0, ascending_push es e h.1 above.1)

    ascending_reverse : (es : List (K × V)) → IsAscending R es → IsAscending (cmp_along true R) (reverse es)
    ascending_reverse [] h = tt
    ascending_reverse (e ∷ es) h = subst (λ l. IsAscending (cmp_along true R) l) (sym (reverse-append (e ∷ []) es)) (ascending_push (reverse es) e (ascending_reverse es h.1) (above_reverse e.0 es h.0))

    -- in the order of a walk, what it gives ascends
    pub ascending_along : (back : Bool) (es : List (K × V)) → IsAscending R es → IsAscending (cmp_along back R) (along back es)
    ascending_along true es h = ascending_reverse es h
    ascending_along false es h = h
