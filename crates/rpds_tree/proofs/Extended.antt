-- What is found after several insertions.
use Rattle.std.proofs.Common.{◌≡◌, Bool, cond, Some, List, [], ◌∷◌, ◌++◌, find as first, map, reverse, refl, ap, append_assoc, sym, ◌∙◌}
use Rattle.std.specs.Borrow.{Bor}
use Rattle.std.specs.Map.Iter.{deref_pair}
use Rattle.std.specs.Cmp.{IsTotalOrder}
use Rattle.std.specs.Ordering.{is_eq, ordering_reverse}
use Rattle.std.specs.declared.cmp.Ordering.{Ordering}
use Rattle.std.specs.declared.cmp.Ordering.TheVariants.{Less, Equal, Greater}
use Rattle.std.proofs.lemmas.List.{reverse-append}
use Rattle.rpds_tree.proofs.MapLaws.{find_put_other}
use Rattle.rpds_tree.proofs.MemberLaws.{find_put_member, find_put_other_member, find_same_member}
use Rattle.rpds_red_black.proofs.Pairs.{find_put, find_same}
use Rattle.rpds_tree.specs.OrderedSet.{find_member, put_member, put_members}
use Rattle.rpds_red_black.specs.Pairs.{find, put, put_all}

-- a pair that is copied last is put in last
pub copied_last : {K V : Type 0} (R : K → K → Ordering) (es : List (K × V)) (xs : List (Bor K × Bor V)) (x : Bor K × Bor V)
    → put_all R es (map deref_pair (xs ++ x ∷ [])) ≡ put R (deref_pair x) (put_all R es (map deref_pair xs))
copied_last R es [] x = refl
copied_last R es (y ∷ xs) x = copied_last R (put R (deref_pair y) es) xs x

module _ {X : Type 0} (hits : X → Bool) where
  find_behind : (xs ys zs : List X) → first hits ys ≡ first hits zs → first hits (xs ++ ys) ≡ first hits (xs ++ zs)
  find_behind [] ys zs e = e
  find_behind (x ∷ xs) ys zs e = ap (cond (hits x) (Some x)) (find_behind xs ys zs e)

  turned : (y : X) (ys xs : List X) → reverse (y ∷ ys) ++ xs ≡ reverse ys ++ y ∷ xs
  turned y ys xs = ap (λ l. l ++ xs) (reverse-append (y ∷ []) ys) ∙ append_assoc (reverse ys) (y ∷ []) xs

module _ {K : Type 0} {R : K → K → Ordering} (o : IsTotalOrder R) where
  found_first : {V : Type 0} (k : K) (p : K × V) (es : List (K × V)) → find R k (put R p es) ≡ find R k (p ∷ es)
  found_first k p es = elim (R p.0 k) as (λ c. R p.0 k ≡ c → find R k (put R p es) ≡ find R k (p ∷ es)) [
    | Less ↦ λ is. find_put_other o p es k (λ e. cc (e, is)) ∙ rw (o.antisymm k p.0 ∙ ap ordering_reverse is) refl
    | Equal ↦ λ is. sym (find_same o p.0 k (put R p es) is) ∙ find_put R o p es ∙ rw (o.antisymm k p.0 ∙ ap ordering_reverse is) refl
    | Greater ↦ λ is. find_put_other o p es k (λ e. cc (e, is)) ∙ rw (o.antisymm k p.0 ∙ ap ordering_reverse is) refl
  ] refl

  pub found_in_all : {V : Type 0} (k : K) (es ps : List (K × V)) → find R k (put_all R es ps) ≡ find R k (reverse ps ++ es)
  found_in_all k es [] = refl
  found_in_all {V} k es (p ∷ ps) =
      let hits : K × V → Bool = λ e. is_eq (R k e.0) in
      found_in_all k (put R p es) ps ∙ find_behind hits (reverse ps) (put R p es) (p ∷ es) (found_first k p es) ∙ ap (find R k) (sym (turned hits p ps es))

  member_first : (x m : K) (ms : List K) → find_member R x (put_member R m ms) ≡ find_member R x (m ∷ ms)
  member_first x m ms = elim (R m x) as (λ c. R m x ≡ c → find_member R x (put_member R m ms) ≡ find_member R x (m ∷ ms)) [
    | Less ↦ λ is. find_put_other_member o m x ms (λ e. cc (e, is)) ∙ rw (o.antisymm x m ∙ ap ordering_reverse is) refl
    | Equal ↦ λ is. sym (find_same_member o m x (put_member R m ms) is) ∙ find_put_member o m ms ∙ rw (o.antisymm x m ∙ ap ordering_reverse is) refl
    | Greater ↦ λ is. find_put_other_member o m x ms (λ e. cc (e, is)) ∙ rw (o.antisymm x m ∙ ap ordering_reverse is) refl
  ] refl

  pub found_in_members : (x : K) (ms xs : List K) → find_member R x (put_members R ms xs) ≡ find_member R x (reverse xs ++ ms)
  found_in_members x ms [] = refl
  found_in_members x ms (m ∷ xs) =
      let hits : K → Bool = λ n. is_eq (R x n) in
      found_in_members x (put_member R m ms) xs ∙ find_behind hits (reverse xs) (put_member R m ms) (m ∷ ms) (member_first x m ms)
      ∙ ap (find_member R x) (sym (turned hits m xs ms))
