-- Positions in the order of the keys.
use Rattle.std.proofs.lemmas.List.{length-reverse}
use Rattle.std.specs.Prelude.{◌&&◌}
use Rattle.rpds_red_black.specs.Positions.{rank}
use Rattle.rpds_red_black.specs.TreeWalk.{form_along}
use Rattle.rpds_red_black.proofs.Words.{◌≡◌, ◌⊎◌, inl, inr, IsBelowAll, ℕ, zero, suc, ◌+◌, ◌-◌, ◌<◌, ◌≤◌, Bool, true, false, List, [], ◌∷◌, ◌++◌, Some, length, reverse, slice_get, refl, sym}
use Rattle.rpds_red_black.proofs.Words.{ap, subst, ◌∙◌, arith, length-append, true≢false, reverse-append, filter-append, filter, Ordering, Less, Equal, Greater}
use Rattle.rpds_red_black.proofs.Words.{Bound, Included, Excluded, Unbounded, is_lt, is_le, ordering_reverse, IsAscending, is_from, is_up_to}
use Rattle.rpds_red_black.proofs.Words.{Steps, pairs_of, pair_of, along, cmp_along, near_side, far_side, Node}
use Rattle.rpds_red_black.proofs.Bounds.{IsUpward, around_failing, around_passing}
use Rattle.rpds_red_black.proofs.Pairs.{around}

-- a list around e, at a position before it, at it, and after it
module _ {T : Type 0} where
  pub at_left : (l r : List T) (e : T) (i : ℕ) → i < length l → slice_get (l ++ e ∷ r) i ≡ slice_get l i
  at_left [] r e i h = absurd (omega (arith, h))
  at_left (x ∷ l) r e zero h = refl
  at_left (x ∷ l) r e (suc i) h = at_left l r e i (omega (arith, h))

  pub at_own : (l r : List T) (e : T) → slice_get (l ++ e ∷ r) (length l) ≡ Some e
  at_own [] r e = refl
  at_own (x ∷ l) r e = at_own l r e

  pub at_right : (l r : List T) (e : T) (i j : ℕ) → i ≡ length l + 1 + j → slice_get (l ++ e ∷ r) i ≡ slice_get r j
  at_right [] r e zero j h = absurd (omega (arith, h))
  at_right [] r e (suc i) j h = (let same : i ≡ j = omega (arith, h) in ap (λ i. slice_get r i) same)
  at_right (x ∷ l) r e zero j h = absurd (omega (arith, h))
  at_right (x ∷ l) r e (suc i) j h = at_right l r e i j (omega (arith, h))

  pub length_filter_reverse : (p : T → Bool) (es : List T) → length (filter p (reverse es)) ≡ length (filter p es)
  length_filter_reverse p [] = refl
  length_filter_reverse p (e ∷ es) =
      let turned = ap (λ z. length (filter p z)) (reverse-append (e ∷ []) es) ∙ ap length (filter-append p (reverse es) (e ∷ []))
      ∙ length-append (filter p (reverse es)) (filter p (e ∷ [])) in
      elim (p e) as (λ b. p e ≡ b → length (filter p (reverse (e ∷ es))) ≡ length (filter p (e ∷ es))) [
        | true ↦ λ h. turned ∙ rw h (omega (arith, length_filter_reverse p es))
        | false ↦ λ h. turned ∙ rw h (omega (arith, length_filter_reverse p es))
      ] refl

  pub length_filter_along : (back : Bool) (p : T → Bool) (es : List T) → length (filter p (along back es)) ≡ length (filter p es)
  length_filter_along true p es = length_filter_reverse p es
  length_filter_along false p es = refl

pub length_along : {T : Type 0} (back : Bool) (es : List T) → length (along back es) ≡ length es
length_along true es = length-reverse es
length_along false es = refl

-- the sides of a node
pub length_of_sides : {K V A : Type 0} (back : Bool) (n : Node K V A) → length (pairs_of n) ≡ length (near_side back n).entries + 1
    + length (far_side back n).entries
length_of_sides true n = omega (arith, length-append n.left.entries (pair_of n.entry.value ∷ n.right.entries))
length_of_sides false n = omega (arith, length-append n.left.entries (pair_of n.entry.value ∷ n.right.entries))

-- two calls that change one count alone
pub compared_again : (a b c : Steps) → b ≡ record a { compared = b.compared } → c ≡ record b { compared = c.compared } → c ≡ record a { compared = c.compared }
compared_again a b c first second = second ∙ ap (λ (s : Steps). record s { compared = c.compared }) first

-- the end of a range is the start of a walk from the back
pub up_to_end : {S K V : Type 0} (order : S → K → Ordering) (turned : K → S → Ordering) (end : Bound S) (es : List (K × V)) (count : ℕ)
    → count + length (filter (λ p. is_from (form_along true order turned) end p.0) es) ≡ length es → count + length (filter (λ p. is_up_to turned end p.0) es) ≡ length es
up_to_end order turned (Included x) es count h = h
up_to_end order turned (Excluded x) es count h = h
up_to_end order turned Unbounded es count h = h

-- which of two keys is below the other
not_both : (r : Ordering) → is_le r ≡ true → is_lt (ordering_reverse r) ≡ false
not_both Less h = refl
not_both Equal h = refl
not_both Greater h = absurd (true≢false (sym h))

one_of_both : (r : Ordering) → is_le r ≡ false → is_lt (ordering_reverse r) ≡ true
one_of_both Less h = absurd (true≢false h)
one_of_both Equal h = absurd (true≢false h)
one_of_both Greater h = refl

-- around a pair that passes a test which holds above each key of which it holds, and around one that fails it
module _ {K V : Type 0} {R : K → K → Ordering} {test : K → Bool} (up : IsUpward R test) where
  pub inside_count : (all l : List (K × V)) (e : K × V) (r : List (K × V)) → all ≡ l ++ e ∷ r → IsAscending R all
      → test e.0 ≡ true → IsAscending R l × (length (filter (λ p. test p.0) all) ≡ length (filter (λ p. test p.0) l) + 1 + length r)
  inside_count all l e r is asc p =
      let asc' = subst (λ z. IsAscending R z) is asc in (
        (around R l e r asc').left,
        omega (
          arith,
          ap (λ z. length (filter (λ p. test p.0) z)) is,
          ap length (around_passing up l e r asc' p),
          length-append (filter (λ (p : K × V). test p.0) l) (e ∷ r),
        ),
      )

  pub outside_count : (all l : List (K × V)) (e : K × V) (r : List (K × V)) → all ≡ l ++ e ∷ r → IsAscending R all
      → test e.0 ≡ false → IsAscending R r × (length (filter (λ p. test p.0) all) ≡ length (filter (λ p. test p.0) r))
  outside_count all l e r is asc p =
      let asc' = subst (λ z. IsAscending R z) is asc in
      ((around R l e r asc').right, ap (λ z. length (filter (λ p. test p.0) z)) is ∙ ap length (around_failing up l e r asc' p))

-- the pairs below what is looked for and those at or above it: `order` is how that compares to a key, and `turned` how a key compares to it
module _ {S K V : Type 0} (order : S → K → Ordering) (turned : K → S → Ordering) (s : S) (turns : (k : K) → turned k s ≡ ordering_reverse (order s k)) where
  split_at : (es : List (K × V)) → rank turned s es + length (filter (λ p. is_le (order s p.0)) es) ≡ length es
  split_at [] = refl
  split_at (e ∷ es) =
      elim (is_le (order s e.0)) as (λ b. is_le (order s e.0) ≡ b → rank turned s (e ∷ es) + length (filter (λ p. is_le (order s p.0)) (e ∷ es)) ≡ length (e ∷ es)) [
        | true ↦ λ h. rw (h, turns e.0, not_both (order s e.0) h) (omega (arith, split_at es))
        | false ↦ λ h. rw (h, turns e.0, one_of_both (order s e.0) h) (omega (arith, split_at es))
      ] refl

  pub rank_is : (es : List (K × V)) (count : ℕ) → count + length (filter (λ p. is_le (order s p.0)) es) ≡ length es → count ≡ rank turned s es
  rank_is es count is = omega (arith, is, split_at es)

-- pairs in order that two tests cut: f holds above each key of which it holds, and g below
module _ {K V : Type 0} {R : K → K → Ordering} {f g : K → Bool} (up : IsUpward R f) (down : IsUpward (cmp_along true R) g) where
  abbrev from : List (K × V) → ℕ
  from es = length (filter (λ p. f p.0) es)

  abbrev until : List (K × V) → ℕ
  until es = length (filter (λ p. g p.0) es)

  abbrev both : List (K × V) → ℕ
  both es = length (filter (λ p. f p.0 && g p.0) es)

  -- above a key that is from the start on
  all_from : (k : K) (es : List (K × V)) → f k ≡ true → IsBelowAll R k es → (from es ≡ length es) × (both es ≡ until es)
  all_from k [] p h = (refl, refl)
  all_from k (e ∷ es) p h = (let rest = all_from k es p h.1 in rw (up k e.0 h.0 p) (ap suc rest.0, grind (arith, rest.1)))

  -- and above one that is behind the end
  none_until : (k : K) (es : List (K × V)) → g k ≡ false → IsBelowAll R k es → (until es ≡ 0) × (both es ≡ 0)
  none_until k [] p h = (refl, refl)
  none_until k (e ∷ es) p h =
      let rest = none_until k es p h.1 in
      let behind : g e.0 ≡ false = grind (arith, down e.0 k h.0, p) in
      rw behind (rest.0, grind (arith, rest.1))

  few_from : (es : List (K × V)) → from es ≤ length es
  few_from [] = omega arith
  few_from (e ∷ es) = grind (arith, few_from es)

  -- each is from the start on or up to the end, or none is both
  parted : (es : List (K × V)) → IsAscending R es → (both es + length es ≡ from es + until es) ⊎ ((both es ≡ 0) × (from es + until es ≤ length es))
  parted [] asc = inl refl
  parted (e ∷ es) asc =
      elim (f e.0) as (λ b. f e.0 ≡ b → (both (e ∷ es) + length (e ∷ es) ≡ from (e ∷ es) + until (e ∷ es)) ⊎ ((both (e ∷ es) ≡ 0) × (from (e ∷ es) + until (e ∷ es) ≤ length (e ∷ es)))) [
        | true ↦ λ p. (let rest = all_from e.0 es p asc.0 in
            elim (g e.0) as (λ b. g e.0 ≡ b → (both (e ∷ es) + length (e ∷ es) ≡ from (e ∷ es) + until (e ∷ es)) ⊎ ((both (e ∷ es) ≡ 0) × (from (e ∷ es) + until (e ∷ es) ≤ length (e ∷ es)))) [
              | true ↦ λ q. rw (p, q) (inl (omega (arith, rest.0, rest.1)))
              | false ↦ λ q. (let none = none_until e.0 es q asc.0 in rw (p, q) (inl (omega (arith, rest.0, none.0, none.1))))
            ] refl)
        | false ↦ λ p.
            elim (g e.0) as (λ b. g e.0 ≡ b → (both (e ∷ es) + length (e ∷ es) ≡ from (e ∷ es) + until (e ∷ es)) ⊎ ((both (e ∷ es) ≡ 0) × (from (e ∷ es) + until (e ∷ es) ≤ length (e ∷ es)))) [
              | true ↦ λ q. rw (p, q) (elim (parted es asc.1) [ inl some ↦ inl (omega (arith, some)) | inr none ↦ inr (none.0, omega (arith, none.1)) ])
              | false ↦ λ q. (let none = none_until e.0 es q asc.0 in rw (p, q) (inr (none.1, omega (arith, none.0, few_from es))))
            ] refl
      ] refl

  -- how many pairs are both, from how many are neither
  pub range_len_is : (es : List (K × V)) (before after : ℕ) → IsAscending R es → before + from es ≡ length es → after + until es ≡ length es
      → length es - before - after ≡ both es
  range_len_is es before after asc b a =
      elim (parted es asc) [ inl some ↦ omega (arith, b, a, some) | inr none ↦ omega (arith, b, a, none.0, none.1) ]
