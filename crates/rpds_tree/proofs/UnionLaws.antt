-- What callers need of `union_of`, `both_in` and `only_in`.
use Rattle.rpds_tree.proofs.Words.{◌≡◌, ◌+◌, Bool, true, false, cond, Option, Some, None, List, [], ◌∷◌, is_some, is_none, length, refl, sym, ap, ◌∙◌, arith}
use Rattle.rpds_tree.proofs.Words.{ℕ, filter, tied_back, ordering_reverse, Less, Equal, Greater, is_eq}
use Rattle.rpds_tree.proofs.Words.{IsTotalOrder, option_or, Ordering, both_in, only_in, union_of, IsBelowAll, IsAscending, find, put, without}
use Rattle.rpds_tree.proofs.MapLaws.{find_put_other, length_of_both, length_put, length_without}
use Rattle.rpds_tree.proofs.Unions.{ascending_put_all, find_filter, find_put_all, picked_union}
use Rattle.rpds_red_black.proofs.Pairs.{ascending_filter, ascending_put, below_tied, find_below}

module _ {K V : Type 0} {R : K → K → Ordering} (o : IsTotalOrder R) where
  pub found_union : (k : K) (es others : List (K × V)) → IsAscending R es → find R k (union_of R es others) ≡ option_or (find R k es) (find R k others)
  found_union k es others up = find_put_all R o k others es up ∙ picked_union (find R k es) (find R k others)

  pub ascending_union : (es others : List (K × V)) → IsAscending R others → IsAscending R (union_of R es others)
  ascending_union es others up = ascending_put_all R o others es up

  -- putting in a pair below all others changes nothing of what these have in common with another map
  common_beside : (e : K × V) (es others : List (K × V)) → IsBelowAll R e.0 es → both_in R es (put R e others) ≡ both_in R es others
  common_beside e [] others below = refl
  common_beside e (x ∷ es) others below =
      let same = find_put_other o e others x.0 (λ tied. absurd (cc (tied, below.0))) in
      rw (same, common_beside e es others below.1) refl

  pub length_union : (es others : List (K × V)) → IsAscending R es → IsAscending R others → length (union_of R es others) + length (both_in R es others)
      ≡ length es + length others
  length_union [] others up ordered = omega arith
  length_union (e ∷ es) others up ordered = go (length_union es (put R e others) up.1 (ascending_put R o e others ordered)) (is_some (find R e.0 others)) refl
    where
      more : length (put R e others) ≡ length others + cond (is_some (find R e.0 others)) 0 1
      more = length_put o e others ordered

      go : length (union_of R es (put R e others)) + length (both_in R es (put R e others)) ≡ length es + length (put R e others)
          → (b : Bool) → is_some (find R e.0 others) ≡ b → length (union_of R (e ∷ es) others) + length
          (cond b (e ∷ both_in R es others) (both_in R es others)) ≡ length (e ∷ es) + length others
      go rest true is = let longer : length (put R e others) ≡ length others + 0 = more ∙ ap (λ b. length others + cond b 0 1) is in
          rw (sym (common_beside e es others up.0)) (omega (arith, rest, longer))
      go rest false is = let longer : length (put R e others) ≡ length others + 1 = more ∙ ap (λ b. length others + cond b 0 1) is in
          rw (sym (common_beside e es others up.0)) (omega (arith, rest, longer))

  pub found_both : (k : K) (es others : List (K × V)) → find R k (both_in R es others) ≡ cond (is_some (find R k others)) (find R k es) None
  found_both k es others = find_filter R o is_some others k es

  -- what two maps have in common is as much from either side
  one_at : (k : K) (es : List (K × V)) → IsAscending R es → length (filter (λ p. is_eq (R k p.0)) es) ≡ cond (is_some (find R k es)) 1 0
  one_at k es up =
      let parts : length (filter (λ p. is_eq (R k p.0)) es) + length (without R k es) ≡ length es = length_of_both (λ p. is_eq (R k p.0)) es in
      let less = length_without o k es up in
      omega (arith, parts, less)

  one_more : (b : Bool) (n : ℕ) (x : K × V) (xs ys : List (K × V)) → length xs ≡ n + length ys → length (cond b (x ∷ xs) xs) ≡ n + length (cond b (x ∷ ys) ys)
  one_more true n x xs ys is = omega (arith, is)
  one_more false n x xs ys is = is

  -- with one pair more, which is below the others
  common_with : (e : K × V) (es others : List (K × V)) → IsBelowAll R e.0 es → length (both_in R others (e ∷ es))
      ≡ length (filter (λ p. is_eq (R e.0 p.0)) others) + length (both_in R others es)
  common_with e es [] below = refl
  common_with e es (x ∷ others) below =
      let rest = common_with e es others below in
      let tied = length (filter (λ p. is_eq (R e.0 p.0)) others) in
      let more = one_more (is_some (find R x.0 es)) tied x (both_in R others (e ∷ es)) (both_in R others es) rest in
      elim (R e.0 x.0) as (λ c. R e.0 x.0 ≡ c → length (both_in R (x ∷ others) (e ∷ es))
      ≡ length (filter (λ p. is_eq (R e.0 p.0)) (x ∷ others)) + length (both_in R (x ∷ others) es)) [
        | Less ↦ λ g. rw (g, o.antisymm x.0 e.0 ∙ ap ordering_reverse g) more
        | Equal ↦ λ g. (let back = tied_back o e.0 x.0 g in let none = find_below R o x.0 es (below_tied R o x.0 e.0 es back below) in
            rw (g, back, none) (omega (arith, rest)))
        | Greater ↦ λ g. rw (g, o.antisymm x.0 e.0 ∙ ap ordering_reverse g) more
      ] refl

  none_common : (es : List (K × V)) → both_in R es [] ≡ []
  none_common [] = refl
  none_common (e ∷ es) = none_common es

  both_more : (b : Bool) (e : K × V) (both : List (K × V)) (tied turned all : ℕ) → tied ≡ cond b 1 0 → length both ≡ turned → all ≡ tied + turned
      → length (cond b (e ∷ both) both) ≡ all
  both_more true e both tied turned all one rest sum = omega (arith, one, rest, sum)
  both_more false e both tied turned all one rest sum = omega (arith, one, rest, sum)

  pub common_turned : (es others : List (K × V)) → IsAscending R es → IsAscending R others → length (both_in R es others) ≡ length (both_in R others es)
  common_turned [] others up ordered = ap length (sym (none_common others))
  common_turned (e ∷ es) others up ordered =
      both_more (is_some (find R e.0 others)) e (both_in R es others) (length (filter (λ p. is_eq (R e.0 p.0)) others)) (length (both_in R others es))
      (length (both_in R others (e ∷ es))) (one_at e.0 others ordered) (common_turned es others up.1 ordered) (common_with e es others up.0)

  pub found_only : (k : K) (es others : List (K × V)) → find R k (only_in R es others) ≡ cond (is_none (find R k others)) (find R k es) None
  found_only k es others = find_filter R o is_none others k es

  pub ascending_both : (es others : List (K × V)) → IsAscending R es → IsAscending R (both_in R es others)
  ascending_both es others up = ascending_filter R (λ p. is_some (find R p.0 others)) es up

  pub ascending_only : (es others : List (K × V)) → IsAscending R es → IsAscending R (only_in R es others)
  ascending_only es others up = ascending_filter R (λ p. is_none (find R p.0 others)) es up

  -- each pair is among those with a common key, or among the others
  pub length_parts : (es others : List (K × V)) → length (both_in R es others) + length (only_in R es others) ≡ length es
  length_parts [] others = refl
  length_parts (e ∷ es) others = go (length_parts es others) (find R e.0 others)
    where
      go : length (both_in R es others) + length (only_in R es others) ≡ length es → (found : Option (K × V))
          → length (cond (is_some found) (e ∷ both_in R es others) (both_in R es others)) + length (cond (is_none found) (e ∷ only_in R es others)
          (only_in R es others)) ≡ length (e ∷ es)
      go rest None = omega (arith, rest)
      go rest (Some x) = omega (arith, rest)
