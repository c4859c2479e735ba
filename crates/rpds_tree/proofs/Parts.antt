-- Parts of a list, by tests of its pairs.
use Rattle.std.proofs.Common.{filter}
use Rattle.rpds_red_black.specs.Ranges.{within_forms}
use Rattle.rpds_tree.proofs.Words.{◌≡◌, ◌≤◌, Bool, true, false, cond, ◌&&◌, List, [], ◌∷◌, length, suc, Result, Ok, Err}
use Rattle.rpds_tree.proofs.Words.{IfOk, refl, ap, ◌∙◌, arith, Ordering}
use Rattle.rpds_tree.proofs.Words.{Bound, OrderedMap, is_from, is_up_to}

-- a filter of what another one left
twice : {T : Type 0} (f g : T → Bool) (es : List T) → filter g (filter f es) ≡ filter (λ p. f p && g p) es
twice f g [] = refl
twice f g (e ∷ es) = elim (f e) as (λ b. filter g (cond b (e ∷ filter f es) (filter f es)) ≡ cond (b && g e) (e ∷ filter (λ p. f p && g p) es)
    (filter (λ p. f p && g p) es)) [
      | true ↦ elim (g e) as (λ b. cond b (e ∷ filter g (filter f es)) (filter g (filter f es)) ≡ cond b (e ∷ filter (λ p. f p && g p) es)
          (filter (λ p. f p && g p) es)) [ true ↦ ap (λ t. e ∷ t) (twice f g es) | false ↦ twice f g es ]
      | false ↦ twice f g es
    ]

pub within_is : {S K V : Type 0} (order : S → K → Ordering) (turned : K → S → Ordering) (start end : Bound S) (es : List (K × V))
    → filter (λ p. is_up_to turned end p.0) (filter (λ p. is_from order start p.0) es) ≡ within_forms order turned start end es
within_is order turned start end es = twice (λ p. is_from order start p.0) (λ p. is_up_to turned end p.0) es

pub few_filtered : {T : Type 0} (f : T → Bool) (es : List T) → length (filter f es) ≤ length es
few_filtered f [] = omega arith
few_filtered f (e ∷ es) = let rest = few_filtered f es in elim (f e) as (λ b. length (cond b (e ∷ filter f es) (filter f es)) ≤ suc (length es))
    [ true ↦ omega (arith, rest) | false ↦ omega (arith, rest) ]

whole_filtered : {T : Type 0} (es : List T) → es ≡ filter (λ p. true) es
whole_filtered [] = refl
whole_filtered (e ∷ es) = ap (λ t. e ∷ t) (whole_filtered es)

-- a map that has no bound
pub unbounded : {K V E : Type 0} (m : OrderedMap K V) (result : Result (OrderedMap K V) E) → IfOk result (λ copy. copy ≡ m)
    → IfOk result (λ c. c.entries ≡ filter (λ p. true) m.entries)
unbounded m (Err x) is = tt
unbounded m (Ok c) is = ap (λ (m : OrderedMap _ _). m.entries) is ∙ whole_filtered m.entries
