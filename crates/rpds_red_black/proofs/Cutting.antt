-- Ascending pairs, cut at a key and combined from their parts.
use Rattle.rpds_red_black.proofs.Words.{◌≡◌, ◌≤◌, ◌+◌, ◌⊎◌, inl, inr, true, false, cond, length, arith, Option, Some, None, IfSome, Result, Ok, Err, IfOk, List}
use Rattle.rpds_red_black.proofs.Words.{[], ◌∷◌, ◌++◌, refl, sym, ap, subst, ◌∙◌, length-append, alike_right, tied_back, tied_itself, Ordering, Less, Equal}
use Rattle.rpds_red_black.proofs.Words.{Greater, is_eq, ordering_reverse, IsTotalOrder, IsBelowAll, IsAboveAll, IsAscending, find, Shape, items_of, IsCutAt, pick}
use Rattle.rpds_red_black.proofs.Words.{kept_of_both, IsCombined, Walked, Cut, Neither, Kept}
use Rattle.rpds_red_black.proofs.Pairs.{after, after_tied, around, below_front, below_through, below_tied, find_below}

module _ {K V : Type 0} (R : K → K → Ordering) where
  above_front : (k : K) (l m : List (K × V)) → IsAboveAll R k (l ++ m) → IsAboveAll R k l
  above_front k [] m h = tt
  above_front k (x ∷ l) m h = (h.0, above_front k l m h.1)

  -- the parts of an ascending list ascend
  pub ascending_front : (l m : List (K × V)) → IsAscending R (l ++ m) → IsAscending R l
  ascending_front [] m h = tt
  ascending_front (x ∷ l) m h = (below_front R x.0 l m h.0, ascending_front l m h.1)

  pub ascending_back : (l m : List (K × V)) → IsAscending R (l ++ m) → IsAscending R m
  ascending_back [] m h = h
  ascending_back (x ∷ l) m h = ascending_back l m h.1

  module _ (o : IsTotalOrder R) where
    pub above_tied : (k j : K) (es : List (K × V)) → R k j ≡ Equal → IsAboveAll R j es → IsAboveAll R k es
    above_tied k j [] p h = tt
    above_tied k j (e ∷ es) p h = (alike_right o k j e.0 p ∙ h.0, above_tied k j es p h.1)

    pub none_at : (k j : K) (es : List (K × V)) → R k j ≡ Equal → IsBelowAll R j es → find R k es ≡ None
    none_at k j es p h = find_below R o k es (below_tied R o k j es p h)

    none_above : (k : K) (es : List (K × V)) → IsAboveAll R k es → find R k es ≡ None
    none_above k [] h = refl
    none_above k (e ∷ es) h =
        let above : R k e.0 ≡ Greater = o.antisymm k e.0 ∙ ap ordering_reverse h.0 in
        rw above (none_above k es h.1)

    -- a list es that was cut at j
    module _ (j : K) (before : List (K × V)) (at : Option (K × V)) (after_it : List (K × V)) (tied : IfSome at (λ p. R j p.0 ≡ Equal)) where
      find_before_nil : (k : K) → IsBelowAll R j after_it → R k j ≡ Less → find R k (items_of at ++ after_it) ≡ None
      find_before_nil k above p = elim at as (λ at. IfSome at (λ p. R j p.0 ≡ Equal) → find R k (items_of at ++ after_it) ≡ None) [
        | None ↦ λ t. find_below R o k after_it (below_through R o k j after_it p above)
        | Some e ↦ λ t. rw (sym (alike_right o j e.0 k t) ∙ p) (find_below R o k after_it (below_through R o k j after_it p above))
      ] tied

      find_at_nil : (k : K) → IsBelowAll R j after_it → R k j ≡ Equal → find R k (items_of at ++ after_it) ≡ at
      find_at_nil k above p = elim at as (λ at. IfSome at (λ p. R j p.0 ≡ Equal) → find R k (items_of at ++ after_it) ≡ at) [
        | None ↦ λ t. find_below R o k after_it (below_tied R o k j after_it p above)
        | Some e ↦ λ t. rw (o.congr k j e.0 p ∙ t) refl
      ] tied

      find_after_nil : (k : K) → R k j ≡ Greater → find R k (items_of at ++ after_it) ≡ find R k after_it
      find_after_nil k p = elim at as (λ at. IfSome at (λ p. R j p.0 ≡ Equal) → find R k (items_of at ++ after_it) ≡ find R k after_it) [
        | None ↦ λ t. refl
        | Some e ↦ λ t. rw (sym (alike_right o j e.0 k t) ∙ p) refl
      ] tied

    find_before : (j k : K) (before : List (K × V)) (at : Option (K × V)) (rest : List (K × V)) → IfSome at (λ p. R j p.0 ≡ Equal) → IsBelowAll R j rest
        → R k j ≡ Less → find R k (before ++ (items_of at ++ rest)) ≡ find R k before
    find_before j k [] at rest tied above p = find_before_nil j [] at rest tied k above p
    find_before j k (x ∷ before) at rest tied above p = ap (cond (is_eq (R k x.0)) (Some x)) (find_before j k before at rest tied above p)

    find_at : (j k : K) (before : List (K × V)) (at : Option (K × V)) (rest : List (K × V)) → IfSome at (λ p. R j p.0 ≡ Equal) → IsAboveAll R j before
        → IsBelowAll R j rest → R k j ≡ Equal → find R k (before ++ (items_of at ++ rest)) ≡ at
    find_at j k [] at rest tied below above p = find_at_nil j [] at rest tied k above p
    find_at j k (x ∷ before) at rest tied below above p = rw (after_tied o k j x.0 below.0 p) (find_at j k before at rest tied below.1 above p)

    find_after : (j k : K) (before : List (K × V)) (at : Option (K × V)) (rest : List (K × V)) → IfSome at (λ p. R j p.0 ≡ Equal) → IsAboveAll R j before
        → R k j ≡ Greater → find R k (before ++ (items_of at ++ rest)) ≡ find R k rest
    find_after j k [] at rest tied below p = find_after_nil j [] at rest tied k p
    find_after j k (x ∷ before) at rest tied below p = rw (after o k j x.0 below.0 p) (find_after j k before at rest tied below.1 p)

    -- what is found in a list that was cut at j
    module _ {j : K} {es before : List (K × V)} {at : Option (K × V)} {rest : List (K × V)} (cut : IsCutAt R j es before at rest) where
      pub cut_less : (k : K) → R k j ≡ Less → find R k es ≡ find R k before
      cut_less k p = ap (find R k) cut.same ∙ find_before j k before at rest cut.tied cut.above p

      pub cut_equal : (k : K) → R k j ≡ Equal → find R k es ≡ at
      cut_equal k p = ap (find R k) cut.same ∙ find_at j k before at rest cut.tied cut.below cut.above p

      pub cut_greater : (k : K) → R k j ≡ Greater → find R k es ≡ find R k rest
      cut_greater k p = ap (find R k) cut.same ∙ find_after j k before at rest cut.tied cut.below p

      pub cut_front : IsAscending R es → IsAscending R before
      cut_front asc = ascending_front before (items_of at ++ rest) (subst (IsAscending R) cut.same asc)

      pub cut_back : IsAscending R es → IsAscending R rest
      cut_back asc = ascending_back (items_of at) rest (ascending_back before (items_of at ++ rest) (subst (IsAscending R) cut.same asc))

      pub cut_length : length es ≡ length before + (length (items_of at) + length rest)
      cut_length = ap length cut.same ∙ length-append before (items_of at ++ rest) ∙ ap (λ x. length before + x) (length-append (items_of at) rest)

    -- the parts ascend, so the whole does
    below_items : (x j : K) (at : Option (K × V)) (rest : List (K × V)) → IfSome at (λ p. R j p.0 ≡ Equal) → IsBelowAll R j rest → R x j ≡ Less
        → IsBelowAll R x (items_of at ++ rest)
    below_items x j None rest tied above p = below_through R o x j rest p above
    below_items x j (Some e) rest tied above p = (sym (alike_right o j e.0 x tied) ∙ p, below_through R o x j rest p above)

    pub below_both : (x : K) (l m : List (K × V)) → IsBelowAll R x l → IsBelowAll R x m → IsBelowAll R x (l ++ m)
    below_both x [] m h k = k
    below_both x (e ∷ l) m h k = (h.0, below_both x l m h.1 k)

    ascending_items : (j : K) (at : Option (K × V)) (rest : List (K × V)) → IfSome at (λ p. R j p.0 ≡ Equal) → IsBelowAll R j rest → IsAscending R rest
        → IsAscending R (items_of at ++ rest)
    ascending_items j None rest tied above asc = asc
    ascending_items j (Some e) rest tied above asc = (below_tied R o e.0 j rest (tied_back o j e.0 tied) above, asc)

    ascending_whole : (j : K) (before : List (K × V)) (at : Option (K × V)) (rest : List (K × V)) → IfSome at (λ p. R j p.0 ≡ Equal) → IsAboveAll R j before
        → IsBelowAll R j rest → IsAscending R before → IsAscending R rest → IsAscending R (before ++ (items_of at ++ rest))
    ascending_whole j [] at rest tied below above asc asc' = ascending_items j at rest tied above asc'
    ascending_whole j (x ∷ before) at rest tied below above asc asc' = (
      below_both x.0 before (items_of at ++ rest) asc.0 (below_items x.0 j at rest tied above below.0),
      ascending_whole j before at rest tied below.1
          above asc.1 asc',
    )

    pub cut_ascending : (j : K) (es before : List (K × V)) (at : Option (K × V)) (rest : List (K × V)) → IsCutAt R j es before at rest
        → IsAscending R before → IsAscending R rest → IsAscending R es
    cut_ascending j es before at rest cut asc asc' = subst (IsAscending R) (sym cut.same) (ascending_whole j before at rest cut.tied cut.below cut.above asc
        asc')

    -- what is found among pairs below j is below j
    found_above : (j k : K) (p : K × V) (es : List (K × V)) → IsAboveAll R j es → find R k es ≡ Some p → R p.0 j ≡ Less
    found_above j k p [] h e = absurd (cc e)
    found_above j k p (x ∷ es) h e = elim (is_eq (R k x.0)) as (λ b. cond b (Some x) (find R k es) ≡ Some p → R p.0 j ≡ Less) [
      | true ↦ λ e. (let same : x ≡ p = cc in subst (λ (z : K × V). R z.0 j ≡ Less) same h.0)
      | false ↦ λ e. found_above j k p es h.1 e
    ] e

    found_below : (j k : K) (p : K × V) (es : List (K × V)) → IsBelowAll R j es → find R k es ≡ Some p → R j p.0 ≡ Less
    found_below j k p [] h e = absurd (cc e)
    found_below j k p (x ∷ es) h e = elim (is_eq (R k x.0)) as (λ b. cond b (Some x) (find R k es) ≡ Some p → R j p.0 ≡ Less) [
      | true ↦ λ e. (let same : x ≡ p = cc in subst (λ (z : K × V). R j z.0 ≡ Less) same h.0)
      | false ↦ λ e. found_below j k p es h.1 e
    ] e

    -- in an ascending list each pair is found by its key
    later : (e p : K × V) (es : List (K × V)) → IsBelowAll R e.0 es → find R p.0 es ≡ Some p → find R p.0 (e ∷ es) ≡ Some p
    later e p es h f = rw (o.antisymm p.0 e.0 ∙ ap ordering_reverse (found_below e.0 p.0 p es h f)) f

    above_by_finds : (j : K) (es : List (K × V)) → IsAscending R es → ((p : K × V) → find R p.0 es ≡ Some p → R p.0 j ≡ Less) → IsAboveAll R j es
    above_by_finds j [] asc h = tt
    above_by_finds j (e ∷ es) asc h = (h e (rw (tied_itself o e.0) refl), above_by_finds j es asc.1 (λ p f. h p (later e p es asc.0 f)))

    below_by_finds : (j : K) (es : List (K × V)) → IsAscending R es → ((p : K × V) → find R p.0 es ≡ Some p → R j p.0 ≡ Less) → IsBelowAll R j es
    below_by_finds j [] asc h = tt
    below_by_finds j (e ∷ es) asc h = (h e (rw (tied_itself o e.0) refl), below_by_finds j es asc.1 (λ p f. h p (later e p es asc.0 f)))

    -- two ascending lists in which each key finds the same are the same
    same_head : (e f : K × V) (es fs : List (K × V)) → IsAscending R (e ∷ es) → IsAscending R (f ∷ fs) → ((k : K) → find R k (e ∷ es) ≡ find R k (f ∷ fs))
        → e ≡ f
    same_head e f es fs a b h =
        let first : find R e.0 (e ∷ es) ≡ Some e = rw (tied_itself o e.0) refl in
        let second : find R f.0 (f ∷ fs) ≡ Some f = rw (tied_itself o f.0) refl in
        elim (R e.0 f.0) as (λ c. R e.0 f.0 ≡ c → e ≡ f) [
          | Less ↦ λ p. absurd (cc (first, h e.0, find_below R o e.0 (f ∷ fs) (p, below_through R o e.0 f.0 fs p b.0)))
          | Equal ↦ λ p. (let found : find R e.0 (f ∷ fs) ≡ Some f = rw p refl in cc (first, h e.0, found))
          | Greater ↦ λ p. (let back : R f.0 e.0 ≡ Less = o.antisymm f.0 e.0 ∙ ap ordering_reverse p in
              absurd (cc (second, h f.0, find_below R o f.0 (e ∷ es) (back, below_through R o f.0 e.0 es back a.0))))
        ] refl

    same_rest : (e : K × V) (es fs : List (K × V)) → IsBelowAll R e.0 es → IsBelowAll R e.0 fs → ((k : K) → find R k (e ∷ es) ≡ find R k (e ∷ fs)) → (k : K)
        → find R k es ≡ find R k fs
    same_rest e es fs a b h k = elim (R k e.0) as (λ c. R k e.0 ≡ c → find R k es ≡ find R k fs) [
      | Less ↦ λ p. find_below R o k es (below_through R o k e.0 es p a) ∙ sym (find_below R o k fs (below_through R o k e.0 fs p b))
      | Equal ↦ λ p. find_below R o k es (below_tied R o k e.0 es p a) ∙ sym (find_below R o k fs (below_tied R o k e.0 fs p b))
      | Greater ↦ λ p. rw p at (h k)
    ] refl

    pub ascending_unique : (es fs : List (K × V)) → IsAscending R es → IsAscending R fs → ((k : K) → find R k es ≡ find R k fs) → es ≡ fs
    ascending_unique [] [] a b h = refl
    ascending_unique [] (f ∷ fs) a b h =
        let found : find R f.0 (f ∷ fs) ≡ Some f = rw (tied_itself o f.0) refl in absurd (cc (h f.0, found))
    ascending_unique (e ∷ es) [] a b h =
        let found : find R e.0 (e ∷ es) ≡ Some e = rw (tied_itself o e.0) refl in absurd (cc (h e.0, found))
    ascending_unique (e ∷ es) (f ∷ fs) a b h =
        let head : e ≡ f = same_head e f es fs a b h in
        let b' : IsAscending R (e ∷ fs) = subst (λ (z : K × V). IsAscending R (z ∷ fs)) (sym head) b in
        let h' : (k : K) → find R k (e ∷ es) ≡ find R k (e ∷ fs) = λ k. h k ∙ ap (λ (z : K × V). find R k (z ∷ fs)) (sym head) in
        ap (λ t. e ∷ t) (ascending_unique es fs a.1 b'.1 (same_rest e es fs a.0 b'.0 h')) ∙ ap (λ z. z ∷ fs) head

-- what is kept is in one of both
pick_some : {T : Type 0} (kept : Kept) (a b : Option T) (p : T) → pick kept a b ≡ Some p → (a ≡ Some p) ⊎ (b ≡ Some p)
pick_some kept None None p e = absurd (cc e)
pick_some kept None (Some c) p e = elim kept.cut as (λ b. cond b (Some c) None ≡ Some p → (None ≡ Some p) ⊎ (Some c ≡ Some p)) [
  | true ↦ λ e. inr e
  | false ↦ λ e. absurd (cc e)
] e
pick_some kept (Some w) None p e = elim kept.walked as (λ b. cond b (Some w) None ≡ Some p → (Some w ≡ Some p) ⊎ (None ≡ Some p)) [
  | true ↦ λ e. inl e
  | false ↦ λ e. absurd (cc e)
] e
pick_some kept (Some w) (Some c) p e = elim kept.common as (λ d. kept_of_both d w c ≡ Some p → (Some w ≡ Some p) ⊎ (Some c ≡ Some p)) [
  | Walked ↦ λ e. inl e
  | Cut ↦ λ e. inr e
  | Neither ↦ λ e. absurd (cc e)
] e

pub pick_if : {T : Type 0} (P : T → Type 0) (kept : Kept) (w : T) (c : Option T) → P w → IfSome c P → IfSome (pick kept (Some w) c) P
pick_if P kept w None pw pc = elim kept.walked as (λ b. IfSome (cond b (Some w) None) P) [ true ↦ pw | false ↦ tt ]
pick_if P kept w (Some c) pw pc = elim kept.common as (λ d. IfSome (kept_of_both d w c) P) [ Walked ↦ pw | Cut ↦ pc | Neither ↦ tt ]

pub few_picked : {T : Type 0} (kept : Kept) (w : T) (c : Option T) → length (items_of (pick kept (Some w) c)) ≤ 1
few_picked kept w None = elim kept.walked as (λ b. length (items_of (cond b (Some w) None)) ≤ 1) [ true ↦ omega arith | false ↦ omega arith ]
few_picked kept w (Some c) = elim kept.common as (λ d. length (items_of (kept_of_both d w c)) ≤ 1) [
  | Walked ↦ omega arith
  | Cut ↦ omega arith
  | Neither ↦
      omega arith
]

module _ {K V : Type 0} (R : K → K → Ordering) (o : IsTotalOrder R) (kept : Kept) where
  -- what is kept of ws, whose pair n has those of wl before it and those of wr after it, and of cs, which was cut at n
  pub combined : (n : K × V) (ws wl wr cs cl cr tl tr es : List (K × V)) (c m : Option (K × V)) → IsAscending R ws → ws ≡ wl ++ n ∷ wr
      → IsCutAt R n.0 cs cl c cr → IsCombined R kept wl cl tl → IsCombined R kept wr cr tr → m ≡ pick kept (Some n) c → es ≡ tl ++ (items_of m ++ tr)
      → IsCombined R kept ws cs es
  combined n ws wl wr cs cl cr tl tr es c m asc is cut left right chosen whole =
      let parts = around R wl n wr (subst (IsAscending R) is asc) in
      let w : IsCutAt R n.0 ws wl (Some n) wr = record { same = is; below = parts.above; tied = tied_itself o n.0; above = parts.below } in
      let below : IsAboveAll R n.0 tl = above_by_finds R o n.0 tl left.ascending (λ p f. elim (pick_some kept (find R p.0 wl) (find R p.0 cl) p
      (sym (left.finds p.0) ∙ f)) [
        | inl e ↦ found_above R o n.0 p.0 p wl parts.above e
        | inr e ↦ found_above R o n.0 p.0 p cl cut.below e
      ]) in
      let above : IsBelowAll R n.0 tr = below_by_finds R o n.0 tr right.ascending (λ p f. elim (pick_some kept (find R p.0 wr) (find R p.0 cr) p
      (sym (right.finds p.0) ∙ f)) [
        | inl e ↦ found_below R o n.0 p.0 p wr parts.below e
        | inr e ↦ found_below R o n.0 p.0 p cr cut.above e
      ]) in
      let tied : IfSome m (λ p. R n.0 p.0 ≡ Equal) = rw chosen (pick_if (λ p. R n.0 p.0 ≡ Equal) kept n c (tied_itself o n.0) cut.tied) in
      let t : IsCutAt R n.0 es tl m tr = record { same = whole; below = below; tied = tied; above = above } in
      let few : length (items_of m) ≤ 1 = rw chosen (few_picked kept n c) in
      record {
        ascending = cut_ascending R o n.0 es tl m tr t left.ascending right.ascending;
        finds = λ k. elim (R k n.0) as (λ r. R k n.0 ≡ r → find R k es ≡ pick kept (find R k ws) (find R k cs)) [
          | Less ↦ λ h. rw (cut_less R o w k h, cut_less R o cut k h) (cut_less R o t k h ∙ left.finds k)
          | Equal ↦ λ h. rw (cut_equal R o w k h, cut_equal R o cut k h) (cut_equal R o t k h ∙ chosen)
          | Greater ↦ λ h. rw (cut_greater R o w k h, cut_greater R o cut k h) (cut_greater R o t k h ∙ right.finds k)
        ] refl;
        few = omega (arith, cut_length R o t, cut_length R o w, cut_length R o cut, few, left.few, right.few);
      }

  pub combined_result : (n : K × V) (ws wl wr cs cl cr tl tr : List (K × V)) (c m : Option (K × V)) → IsAscending R ws → ws ≡ wl ++ n ∷ wr
      → IsCutAt R n.0 cs cl c cr → IsCombined R kept wl cl tl → IsCombined R kept wr cr tr → m ≡ pick kept (Some n) c
      → {E : Type 0} (result : Result (Shape K V) E) → IfOk result (λ t. t.entries ≡ tl ++ (items_of m ++ tr))
      → IfOk result (λ t. IsCombined R kept ws cs t.entries)
  combined_result n ws wl wr cs cl cr tl tr c m asc is cut left right chosen (Err x) whole = tt
  combined_result n ws wl wr cs cl cr tl tr c m asc is cut left right chosen (Ok t) whole = combined n ws wl wr cs cl cr tl tr t.entries c m asc is cut left
      right chosen whole
