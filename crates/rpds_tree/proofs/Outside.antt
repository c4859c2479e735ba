-- What is before a range, and what is behind it.
use Rattle.std.proofs.Common.{filter}
use Rattle.rpds_tree.proofs.Words.{◌≡◌, ◌+◌, ◌-◌, ◌<◌, ℕ, zero, suc, Bool, true, false, not, cond, ◌&&◌, List, [], ◌∷◌, ◌++◌, refl, sym, ap, ◌∙◌, arith, length, is_le, is_lt}
use Rattle.rpds_tree.proofs.Words.{ordering_reverse, Ordering, Less, Equal, Greater, Included, Excluded, IsAscending, IsBelowAll, is_from, cmp_along}
use Rattle.rpds_tree.proofs.Words.{is_up_to}
use Rattle.rpds_red_black.proofs.Bounds.{IsUpward}
use Rattle.rpds_red_black.proofs.Pairs.{ascending_filter}
use Rattle.rpds_red_black.proofs.PairPositions.{range_len_is}

less_not : (c : Ordering) → is_lt (ordering_reverse c) ≡ not (is_le c)
less_not Less = refl
less_not Equal = refl
less_not Greater = refl

most_not : (c : Ordering) → is_le (ordering_reverse c) ≡ not (is_lt c)
most_not Less = refl
most_not Equal = refl
most_not Greater = refl

less_turned : (c : Ordering) → is_lt c ≡ not (is_le (ordering_reverse c))
less_turned Less = refl
less_turned Equal = refl
less_turned Greater = refl

most_turned : (c : Ordering) → is_le c ≡ not (is_lt (ordering_reverse c))
most_turned Less = refl
most_turned Equal = refl
most_turned Greater = refl

-- a count that isn't 0
pub some_of : {n m : ℕ} → n ≡ m → (n ≡ 0 → ⊥) → 0 < m
some_of {n = zero} is none = absurd (none refl)
some_of {n = suc n} is none = omega (arith, is)

pub none_kept : {T : Type 0} (es : List T) → [] ≡ filter (λ p. false) es
none_kept [] = refl
none_kept (e ∷ es) = none_kept es

-- at what a form is seen as: what isn't from a start on is below it, and what isn't up to an end is above it
module _ {S K V : Type 0} (order : S → K → Ordering) (turned : K → S → Ordering) (s : S) (turns : (k : K) → turned k s ≡ ordering_reverse (order s k)) (es : List (K × V)) where
  pub from_included : filter (λ p. is_up_to turned (Excluded s) p.0) es ≡ filter (λ p. not (is_from order (Included s) p.0)) es
  from_included = λ i. filter (λ p. (ap is_lt (turns p.0) ∙ less_not (order s p.0)) i) es

  pub from_excluded : filter (λ p. is_up_to turned (Included s) p.0) es ≡ filter (λ p. not (is_from order (Excluded s) p.0)) es
  from_excluded = λ i. filter (λ p. (ap is_le (turns p.0) ∙ most_not (order s p.0)) i) es

  pub up_to_included : filter (λ p. is_from order (Excluded s) p.0) es ≡ filter (λ p. not (is_up_to turned (Included s) p.0)) es
  up_to_included = λ i. filter (λ p. (less_turned (order s p.0) ∙ ap (λ c. not (is_le c)) (sym (turns p.0))) i) es

  pub up_to_excluded : filter (λ p. is_from order (Included s) p.0) es ≡ filter (λ p. not (is_up_to turned (Excluded s) p.0)) es
  up_to_excluded = λ i. filter (λ p. (most_turned (order s p.0) ∙ ap (λ c. not (is_lt c)) (sym (turns p.0))) i) es

-- a range of two tests: f holds above each key of which it holds, and g below
module _ {K V : Type 0} {R : K → K → Ordering} {f g : K → Bool} (up : IsUpward R f) (down : IsUpward (cmp_along true R) g) where
  abbrev before : List (K × V) → List (K × V)
  before es = filter (λ p. not (f p.0)) es

  abbrev behind : List (K × V) → List (K × V)
  behind es = filter (λ p. not (g p.0)) es

  abbrev inside : List (K × V) → List (K × V)
  inside es = filter (λ p. f p.0 && g p.0) es

  abbrev outside : List (K × V) → List (K × V)
  outside es = filter (λ p. not (f p.0 && g p.0)) es

  -- above a key that is from the start on, nothing is before it
  none_before : (k : K) (es : List (K × V)) → f k ≡ true → IsBelowAll R k es → (before es ≡ []) × (behind es ≡ outside es)
  none_before k [] p below = (refl, refl)
  none_before k (e ∷ es) p below =
      let rest = none_before k es p below.1 in
      rw (up k e.0 below.0 p) (rest.0, ap (λ l. cond (not (g e.0)) (e ∷ l) l) rest.1)

  -- what is below something inside isn't behind the end
  up_to_first : (k : K) (es : List (K × V)) → IsBelowAll R k es → 0 < length (inside es) → g k ≡ true
  up_to_first k [] below some = absurd (omega (arith, some))
  up_to_first k (e ∷ es) below some = grind (arith, down e.0 k below.0, up_to_first k es below.1, some)

  -- where something is inside, what is outside is before the range or behind it
  pub around_range : (es : List (K × V)) → IsAscending R es → 0 < length (inside es) → before es ++ behind es ≡ outside es
  around_range [] asc some = refl
  around_range (e ∷ es) asc some =
      elim (f e.0) as (λ b. f e.0 ≡ b → before (e ∷ es) ++ behind (e ∷ es) ≡ outside (e ∷ es)) [
        | true ↦ λ p. (let none = none_before e.0 es p asc.0 in
            rw p (ap (λ l. l ++ behind (e ∷ es)) none.0 ∙ ap (λ l. cond (not (g e.0)) (e ∷ l) l) none.1))
        | false ↦ λ p. (let less : 0 < length (inside es) = rw p at some in
            rw (p, up_to_first e.0 es asc.0 less) (ap (λ l. e ∷ l) (around_range es asc.1 less)))
      ] refl

  pub ascending_around : (es : List (K × V)) → IsAscending R es → 0 < length (inside es) → IsAscending R (before es ++ behind es)
  ascending_around es asc some = rw (around_range es asc some) (ascending_filter R (λ p. not (f p.0 && g p.0)) es asc)

  -- where nothing is inside, all is outside
  pub all_outside : (es : List (K × V)) → length (inside es) ≡ 0 → outside es ≡ es
  all_outside [] none = refl
  all_outside (e ∷ es) none =
      elim (f e.0 && g e.0) as (λ b. (f e.0 && g e.0) ≡ b → outside (e ∷ es) ≡ e ∷ es) [
        | true ↦ λ p. absurd (omega (arith, rw p at none))
        | false ↦ λ p. rw p (ap (λ l. e ∷ l) (all_outside es (rw p at none)))
      ] refl

  others : (test : K → Bool) (es : List (K × V)) → length (filter (λ p. not (test p.0)) es) + length (filter (λ p. test p.0) es) ≡ length es
  others test [] = refl
  others test (e ∷ es) = grind (arith, others test es)

  -- how many are inside, by how many are before and behind
  pub inside_len : (es : List (K × V)) → IsAscending R es → length es - length (before es) - length (behind es) ≡ length (inside es)
  inside_len es asc = range_len_is up down es (length (before es)) (length (behind es)) asc (others f es) (others g es)
