-- What callers need of `find`, `put`, `without` and `within`.
use Rattle.std.proofs.Common.{IsTrue, filter, sum_by}
use Rattle.std.specs.declared.option.Option.{Option}
use Rattle.std.specs.Option.{option_or, unwrap_or}
use Rattle.std.proofs.lemmas.List.Sums.{sum_by-cons}
use Rattle.rpds_red_black.specs.Neighbors.{IsFloor, IsCeiling}
use Rattle.rpds_tree.proofs.Words.{◌≡◌, ◌≢◌, ℕ, zero, suc, ◌+◌, Bool, true, not, cond, ◌&&◌, ◌||◌, List, [], ◌∷◌, ◌++◌, Some, None, is_some, length}
use Rattle.rpds_tree.proofs.Words.{slice_get, refl, sym, ap, subst, ◌∙◌, arith, Ordering, Less, Equal, Bound, Included, Unbounded, IsTotalOrder, keys_of}
use Rattle.rpds_tree.proofs.Words.{option_map, is_eq, is_le, ordering_reverse, alike_right, tied_itself, IsBelowAll, IsAscending, find, put, without, is_from}
use Rattle.rpds_tree.proofs.Words.{is_up_to, outside, within}
use Rattle.rpds_red_black.proofs.Pairs.{ascending_filter, below_middle, below_through, find_below, find_equal, find_put, find_same, find_tied, find_without_other, without_absent, without_put}

-- one pair more, unless there was one
abbrev pub one_unless : Bool → ℕ
one_unless there = cond there 0 1

abbrev pub inside : {K : Type 0} → (K → K → Ordering) → Bound K → Bound K → K → Bool
inside R start end k = is_from R start k && is_up_to R end k

-- what passes a test and what doesn't are together as long as all
pub length_of_both : {X : Type 0} (test : X → Bool) (xs : List X) → length (filter test xs) + length (filter (λ x. not (test x)) xs) ≡ length xs
length_of_both test [] = refl
length_of_both test (x ∷ xs) = grind (arith, length_of_both test xs)

-- in pairs after others
pub find_after : {K V : Type 0} (R : K → K → Ordering) (k : K) (es others : List (K × V)) → find R k (es ++ others) ≡ option_or (find R k es) (find R k others)
find_after R k [] others = refl
find_after R k (e ∷ es) others = grind (arith, find_after R k es others)

module _ {K : Type 0} {R : K → K → Ordering} (o : IsTotalOrder R) where
  pub inside_same : (start end : Bound K) (j k : K) → R j k ≡ Equal → inside R start end j ≡ inside R start end k
  inside_same start end j k is = grind (arith, λ (x : K). alike_right o j k x is, λ (x : K). o.congr j k x is)

module _ {K V : Type 0} {R : K → K → Ordering} (o : IsTotalOrder R) where
  -- looking up
  none_after : (k : K) (e : K × V) (es : List (K × V)) → IsAscending R (e ∷ es) → R k e.0 ≡ Less → find R k es ≡ None
  none_after k e es up less = find_below R o k es (below_through R o k e.0 es less up.0)

  below_at : (k : K) (es : List (K × V)) (i : ℕ) (p : K × V) → IsBelowAll R k es → slice_get es i ≡ Some p → R k p.0 ≡ Less
  below_at k [] i p below at = absurd (cc)
  below_at k (e ∷ es) zero p below at = let same : e ≡ p = cc in subst (λ (x : K × V). R k x.0 ≡ Less) same below.0
  below_at k (e ∷ es) (suc i) p below at = below_at k es i p below.1 at

  pub find_at : (es : List (K × V)) (i : ℕ) (p : K × V) → IsAscending R es → slice_get es i ≡ Some p → find R p.0 es ≡ Some p
  find_at [] i p up at = absurd (cc)
  find_at (e ∷ es) zero p up at = let same : e ≡ p = cc in subst (λ (x : K × V). find R x.0 (e ∷ es) ≡ Some x) same (rw (tied_itself o e.0) refl)
  find_at (e ∷ es) (suc i) p up at = grind (arith, find_at es i p up.1 at, o.antisymm p.0 e.0, below_at e.0 es i p up.0 at)

  -- putting in
  pub find_put_other : (p : K × V) (es : List (K × V)) (j : K) → R p.0 j ≢ Equal → find R j (put R p es) ≡ find R j es
  find_put_other p es j apart =
      sym (find_without_other R o j p.0 (put R p es) apart) ∙ ap (find R j) (without_put R o p es) ∙ find_without_other R o j p.0 es apart

  pub has_put : (p : K × V) (es : List (K × V)) (j : K) → is_some (find R j (put R p es)) ≡ (is_eq (R j p.0) || is_some (find R j es))
  has_put p es j = grind (arith, find_put_other p es j, o.antisymm j p.0, find_same o j p.0 (put R p es), find_put R o p es)

  pub length_put : (p : K × V) (es : List (K × V)) → IsAscending R es → length (put R p es) ≡ length es + one_unless (is_some (find R p.0 es))
  length_put p [] up = refl
  length_put p (e ∷ es) up = grind (arith, length_put p es up.1, none_after p.0 e es up)

  -- what a function gives of the pair that is found
  abbrev pub of_found : (K × V → ℕ) → K → List (K × V) → ℕ
  of_found f k es = unwrap_or (option_map f (find R k es)) 0

  pub sum_put : (f : K × V → ℕ) (p : K × V) (es : List (K × V)) → IsAscending R es → sum_by f (put R p es) + of_found f p.0 es ≡ sum_by f es + f p
  sum_put f p [] up = rw (sum_by-cons f p []) (omega arith)
  sum_put f p (e ∷ es) up = grind (arith, sum_put f p es up.1, none_after p.0 e es up, sum_by-cons f p (e ∷ es), sum_by-cons f e es, sum_by-cons f p es, sum_by-cons f e (put R p es))

  pub keys_put : (k : K) (w : V) (es : List (K × V)) (p : K × V) → IsAscending R es → find R k es ≡ Some p → keys_of (put R (p.0, w) es) ≡ keys_of es
  keys_put k w [] p up found = absurd (cc)
  keys_put k w (e ∷ es) p up found = grind (arith, keys_put k w es p up.1, none_after k e es up, find_tied o k es p, tied_itself o e.0, o.congr k p.0 e.0)

  -- taking out
  pub length_without : (k : K) (es : List (K × V)) → IsAscending R es → length (without R k es) + cond (is_some (find R k es)) 1 0 ≡ length es
  length_without k [] up = refl
  length_without k (e ∷ es) up = grind (arith, length_without k es up.1, find_same o k e.0 es, find_below R o e.0 es up.0, without_absent R k es)

  -- a filter of keys that passes equal keys alike
  find_filtered : (test : K → Bool) → ((j k : K) → R j k ≡ Equal → test j ≡ test k) → (k : K) (es : List (K × V)) → find R k (filter (λ p. test p.0) es) ≡ cond (test k) (find R k es) None
  find_filtered test alike k [] = grind arith
  find_filtered test alike k (e ∷ es) = grind (arith, find_filtered test alike k es, alike k e.0)

  -- ranges
  module _ (start end : Bound K) where
    pub find_within : (k : K) (es : List (K × V)) → find R k (within R start end es) ≡ cond (inside R start end k) (find R k es) None
    find_within k es = find_filtered (inside R start end) (inside_same o start end) k es

    pub find_outside : (k : K) (es : List (K × V)) → find R k (outside R start end es) ≡ cond (not (inside R start end k)) (find R k es) None
    find_outside k es = find_filtered (λ k. not (inside R start end k)) (λ j k is. ap not (inside_same o start end j k is)) k es

    pub ascending_outside : (es : List (K × V)) → IsAscending R es → IsAscending R (outside R start end es)
    ascending_outside es up = ascending_filter R (λ p. not (inside R start end p.0)) es up

  pub ascending_within : (start end : Bound K) (es : List (K × V)) → IsAscending R es → IsAscending R (within R start end es)
  ascending_within start end es up = ascending_filter R (λ p. is_from R start p.0 && is_up_to R end p.0) es up

  -- the last of a list is above all others, the first below them
  none_above : (init : List (K × V)) (p : K × V) (j : K) → IsAscending R (init ++ p ∷ []) → R p.0 j ≡ Less → find R j (init ++ p ∷ []) ≡ None
  none_above [] p j up above = rw (o.antisymm j p.0 ∙ ap ordering_reverse above) refl
  none_above (e ∷ init) p j up above = grind (arith, none_above init p j up.1 above, o.trans e.0 p.0 j, below_middle R e.0 init p [] up.0, o.antisymm j e.0)

  kept : (b : Bool) (f : Option (K × V)) (p : K × V) → cond b f None ≡ Some p → (f ≡ Some p) × (b ≡ true)
  kept b f p is = grind arith

  pub floor_of : (k : K) (es init : List (K × V)) (p : K × V) → IsAscending R es → within R Unbounded (Included k) es ≡ init ++ p ∷ [] → IsFloor R k es p
  floor_of k es init p up is =
      let up' : IsAscending R (init ++ p ∷ []) = subst (IsAscending R) is (ascending_within Unbounded (Included k) es up) in
      let here = kept (is_le (R p.0 k)) (find R p.0 es) p (sym (find_within Unbounded (Included k) p.0 es) ∙ ap (find R p.0) is ∙ find_equal R o p.0 init p [] up' (tied_itself o p.0)) in
      record {
        there = here.0;
        within = here.1;
        last = λ j above le. ap (λ b. cond b (find R j es) None) (sym le) ∙ sym (find_within Unbounded (Included k) j es) ∙ ap (find R j) is ∙ none_above init p j up' above;
      }

  pub no_floor : (k : K) (es : List (K × V)) → within R Unbounded (Included k) es ≡ [] → (j : K) → IsTrue (is_le (R j k)) → find R j es ≡ None
  no_floor k es is j le = ap (λ b. cond b (find R j es) None) (sym le) ∙ sym (find_within Unbounded (Included k) j es) ∙ ap (find R j) is

  from_start : (k j : K) (es : List (K × V)) → find R j (within R (Included k) Unbounded es) ≡ cond (is_le (R k j)) (find R j es) None
  from_start k j es = grind (arith, find_within (Included k) Unbounded j es)

  pub ceiling_of : (k : K) (es rest : List (K × V)) (p : K × V) → IsAscending R es → within R (Included k) Unbounded es ≡ p ∷ rest → IsCeiling R k es p
  ceiling_of k es rest p up is =
      let up' : IsAscending R (p ∷ rest) = subst (IsAscending R) is (ascending_within (Included k) Unbounded es up) in
      let here = kept (is_le (R k p.0)) (find R p.0 es) p (sym (from_start k p.0 es) ∙ ap (find R p.0) is ∙ find_equal R o p.0 [] p rest up' (tied_itself o p.0)) in
      record {
        there = here.0;
        within = here.1;
        first = λ j below le. ap (λ b. cond b (find R j es) None) (sym le) ∙ sym (from_start k j es) ∙ ap (find R j) is ∙ rw below (none_after j p rest up' below);
      }

  pub no_ceiling : (k : K) (es : List (K × V)) → within R (Included k) Unbounded es ≡ [] → (j : K) → IsTrue (is_le (R k j)) → find R j es ≡ None
  no_ceiling k es is j le = ap (λ b. cond b (find R j es) None) (sym le) ∙ sym (from_start k j es) ∙ ap (find R j) is
