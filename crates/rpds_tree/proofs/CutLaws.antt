-- What callers need of a map that is cut at a key, or from which a range is taken.
use Rattle.rpds_tree.proofs.Words.{◌≡◌, Bool, true, false, not, cond, Option, Some, None, List, [], ◌∷◌, ◌++◌, refl, ap, ◌∙◌, option_or, ordering_reverse}
use Rattle.rpds_tree.proofs.Words.{Ordering, Less, Equal, Greater, Bound, Included, Excluded, Unbounded, IsTotalOrder, IsAscending, IsBelowAll}
use Rattle.rpds_tree.proofs.Words.{find, without, outside, within, union_of}
use Rattle.rpds_red_black.proofs.Cutting.{ascending_unique}
use Rattle.rpds_red_black.proofs.Pairs.{below_through, below_tied}
use Rattle.rpds_tree.proofs.MapLaws.{ascending_outside, ascending_within, find_outside, find_within, inside}
use Rattle.rpds_tree.proofs.UnionLaws.{ascending_union, found_union}

module _ {K : Type 0} {R : K → K → Ordering} (o : IsTotalOrder R) where
  turned : (j k : K) (c : Ordering) → R j k ≡ c → R k j ≡ ordering_reverse c
  turned j k c is = o.antisymm k j ∙ ap ordering_reverse is

module _ {K V : Type 0} {R : K → K → Ordering} (o : IsTotalOrder R) where
  -- nothing is below what is below all
  none_under : (k : K) (es : List (K × V)) → IsBelowAll R k es → within R Unbounded (Excluded k) es ≡ []
  none_under k [] below = refl
  none_under k (e ∷ es) below = rw (turned o k e.0 Less below.0) (none_under k es below.1)

  -- those below a key, and those above it
  pub cut_apart : (k : K) (es : List (K × V)) → IsAscending R es → within R Unbounded (Excluded k) es ++ within R (Excluded k) Unbounded es ≡ without R k es
  cut_apart k [] up = refl
  cut_apart k (e ∷ es) up =
      let rest = cut_apart k es up.1 in
      elim (R k e.0) as (λ c. R k e.0 ≡ c → within R Unbounded (Excluded k) (e ∷ es) ++ within R (Excluded k) Unbounded (e ∷ es) ≡ without R k (e ∷ es)) [
        | Less ↦ λ g. (let none = none_under k es (below_through R o k e.0 es g up.0) in
            rw (g, turned o k e.0 Less g, none) (ap (λ l. e ∷ l) (rw none at rest)))
        | Equal ↦ λ g. rw (g, turned o k e.0 Equal g) rest
        | Greater ↦ λ g. rw (g, turned o k e.0 Greater g) (ap (λ l. e ∷ l) rest)
      ] refl

  -- those below a key, and those from it on
  pub cut_whole : (k : K) (es : List (K × V)) → IsAscending R es → within R Unbounded (Excluded k) es ++ within R (Included k) Unbounded es ≡ es
  cut_whole k [] up = refl
  cut_whole k (e ∷ es) up =
      let rest = cut_whole k es up.1 in
      elim (R k e.0) as (λ c. R k e.0 ≡ c → within R Unbounded (Excluded k) (e ∷ es) ++ within R (Included k) Unbounded (e ∷ es) ≡ e ∷ es) [
        | Less ↦ λ g. (let none = none_under k es (below_through R o k e.0 es g up.0) in
            rw (g, turned o k e.0 Less g, none) (ap (λ l. e ∷ l) (rw none at rest)))
        | Equal ↦ λ g. (let none = none_under k es (below_tied R o k e.0 es g up.0) in
            rw (g, turned o k e.0 Equal g, none) (ap (λ l. e ∷ l) (rw none at rest)))
        | Greater ↦ λ g. rw (g, turned o k e.0 Greater g) (ap (λ l. e ∷ l) rest)
      ] refl

  -- a range, and what is outside of it
  either_part : (b : Bool) (found : Option (K × V)) → option_or (cond b found None) (cond (not b) found None) ≡ found
  either_part true None = refl
  either_part true (Some p) = refl
  either_part false found = refl

  pub parts_united : (start end : Bound K) (es : List (K × V)) → IsAscending R es → union_of R (within R start end es) (outside R start end es) ≡ es
  parts_united start end es up =
      let part = within R start end es in
      let rest = outside R start end es in
      ascending_unique R o (union_of R part rest) es (ascending_union o part rest (ascending_outside o start end es up)) up
      (λ k. found_union o k part rest (ascending_within o start end es up)
      ∙ (λ i. option_or (find_within o start end k es i) (find_outside o start end k es i)) ∙ either_part (inside R start end k) (find R k es))
