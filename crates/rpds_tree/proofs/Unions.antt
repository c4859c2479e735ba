-- Whole maps in one: lists in which each key finds what is kept of it.
use Rattle.std.proofs.Common.{filter}
use Rattle.rpds_red_black.specs.Cuts.{turned, turned_common}
use Rattle.rpds_red_black.specs.declared.combine.Common.{Common}
use Rattle.rpds_tree.proofs.Words.{◌≡◌, ◌≢◌, ◌≤◌, suc, Bool, true, false, cond, Option, Some, None, is_some, is_none, List, [], ◌∷◌}
use Rattle.rpds_tree.proofs.Words.{length, arith, Result, IfOk, refl, sym, ap, ◌∙◌, tied_back, IfOk-weaker, Ordering}
use Rattle.rpds_tree.proofs.Words.{Less, Equal, Greater, option_or, option_xor, is_eq, IsTotalOrder, union_of}
use Rattle.rpds_tree.proofs.Words.{both_in, only_in, IsCombined, kept_of_both, pick, Shape, IsAscending, find, put}
use Rattle.rpds_tree.proofs.Words.{put_all, Walked, Cut, Neither, Kept}
use Rattle.rpds_red_black.proofs.Cutting.{ascending_unique, none_at}
use Rattle.rpds_tree.proofs.MapLaws.{find_put_other}
use Rattle.rpds_red_black.proofs.Pairs.{ascending_filter, ascending_put, find_put, find_same}

abbrev pub of_union : Kept
of_union = record { walked = true; cut = true; common = Walked }

abbrev pub of_both : Kept
of_both = record { walked = false; cut = false; common = Walked }

abbrev pub of_one : Kept
of_one = record { walked = true; cut = false; common = Neither }

abbrev pub of_either : Kept
of_either = record { walked = true; cut = true; common = Neither }

either : {X : Type 0} (b : Bool) (x : X) → x ≡ cond b x x
either true x = refl
either false x = refl

module _ {T : Type 0} where
  second : (b : Option T) → pick of_union None b ≡ b
  second None = refl
  second (Some c) = refl

  first : (w : T) (b : Option T) → pick of_union (Some w) b ≡ Some w
  first w None = refl
  first w (Some c) = refl

  pub picked_union : (a b : Option T) → pick of_union a b ≡ option_or a b
  picked_union None None = refl
  picked_union None (Some c) = refl
  picked_union (Some w) None = refl
  picked_union (Some w) (Some c) = refl

  pub picked_both : (a b : Option T) → pick of_both a b ≡ cond (is_some b) a None
  picked_both None None = refl
  picked_both None (Some c) = refl
  picked_both (Some w) None = refl
  picked_both (Some w) (Some c) = refl

  pub picked_one : (a b : Option T) → pick of_one a b ≡ cond (is_none b) a None
  picked_one None None = refl
  picked_one None (Some c) = refl
  picked_one (Some w) None = refl
  picked_one (Some w) (Some c) = refl

  picked_either : (a b : Option T) → pick of_either a b ≡ pick of_union (cond (is_none b) a None) (cond (is_none a) b None)
  picked_either None None = refl
  picked_either None (Some c) = refl
  picked_either (Some w) None = refl
  picked_either (Some w) (Some c) = refl

  pub picked_alone : (a b : Option T) → pick of_either a b ≡ option_xor a b
  picked_alone None None = refl
  picked_alone None (Some c) = refl
  picked_alone (Some w) None = refl
  picked_alone (Some w) (Some c) = refl

  turned_both : (d : Common) (w c : T) → kept_of_both (turned_common d) c w ≡ kept_of_both d w c
  turned_both Walked w c = refl
  turned_both Cut w c = refl
  turned_both Neither w c = refl

  pick_turned : (kept : Kept) (a b : Option T) → pick (turned kept) b a ≡ pick kept a b
  pick_turned kept None None = refl
  pick_turned kept None (Some c) = refl
  pick_turned kept (Some w) None = refl
  pick_turned kept (Some w) (Some c) = turned_both kept.common w c

module _ {K V : Type 0} (R : K → K → Ordering) where
  module _ (o : IsTotalOrder R) where
    pub ascending_put_all : (es ps : List (K × V)) → IsAscending R es → IsAscending R (put_all R es ps)
    ascending_put_all es [] h = h
    ascending_put_all es (p ∷ ps) h = ascending_put_all (put R p es) ps (ascending_put R o p es h)

    pub find_put_all : (k : K) (es ps : List (K × V)) → IsAscending R ps → find R k (put_all R es ps) ≡ pick of_union (find R k ps) (find R k es)
    find_put_all k es [] asc = sym (second (find R k es))
    find_put_all k es (p ∷ ps) asc = find_put_all k (put R p es) ps asc.1 ∙ go (R k p.0) refl
      where
        other : R k p.0 ≢ Equal → find R k (put R p es) ≡ find R k es
        other apart = find_put_other o p es k (λ h. apart (tied_back o p.0 k h))

        go : (c : Ordering) → R k p.0 ≡ c → pick of_union (find R k ps) (find R k (put R p es)) ≡ pick of_union (cond (is_eq c) (Some p) (find R k ps))
            (find R k es)
        go Less is = ap (pick of_union (find R k ps)) (other (λ h. absurd (cc)))
        go Greater is = ap (pick of_union (find R k ps)) (other (λ h. absurd (cc)))
        go Equal is = rw (none_at R o k p.0 ps is asc.0, find_same o k p.0 (put R p es) is, find_put R o p es) (sym (first p (find R k es)))

    -- a filter by what is found of each key
    pub find_filter : (g : Option (K × V) → Bool) (others : List (K × V)) (k : K) (es : List (K × V))
        → find R k (filter (λ p. g (find R p.0 others)) es) ≡ cond (g (find R k others)) (find R k es) None
    find_filter g others k [] = either (g (find R k others)) None
    find_filter g others k (e ∷ es) = go (find_filter g others k es) (R k e.0) refl (g (find R e.0 others)) refl
      where
        alike : R k e.0 ≡ Equal → g (find R k others) ≡ g (find R e.0 others)
        alike is = ap g (find_same o k e.0 others is)

        go : find R k (filter (λ p. g (find R p.0 others)) es) ≡ cond (g (find R k others)) (find R k es) None → (c : Ordering) → R k e.0 ≡ c → (b : Bool)
            → g (find R e.0 others) ≡ b
            → find R k (cond b (e ∷ filter (λ p. g (find R p.0 others)) es) (filter (λ p. g (find R p.0 others)) es))
            ≡ cond (g (find R k others)) (cond (is_eq c) (Some e) (find R k es)) None
        go rest Less is true t = rw is rest
        go rest Less is false t = rest
        go rest Greater is true t = rw is rest
        go rest Greater is false t = rest
        go rest Equal is true t = rw (alike is, t, is) refl
        go rest Equal is false t = rw (alike is, t) (rw (alike is, t) at rest)

    module _ (es fs m : List (K × V)) (up : IsAscending R es) (up' : IsAscending R fs) where
      pub union_is : IsCombined R of_union es fs m → m ≡ union_of R es fs
      union_is is = ascending_unique R o m (put_all R fs es) is.ascending (ascending_put_all fs es up') (λ k. is.finds k ∙ sym (find_put_all k fs es up))

      pub both_is : IsCombined R of_both es fs m → m ≡ both_in R es fs
      both_is is = ascending_unique R o m (both_in R es fs) is.ascending (ascending_filter R (λ p. is_some (find R p.0 fs)) es up)
          (λ k. is.finds k ∙ picked_both (find R k es) (find R k fs) ∙ sym (find_filter is_some fs k es))

      pub one_is : IsCombined R of_one es fs m → m ≡ only_in R es fs
      one_is is = ascending_unique R o m (only_in R es fs) is.ascending (ascending_filter R (λ p. is_none (find R p.0 fs)) es up)
          (λ k. is.finds k ∙ picked_one (find R k es) (find R k fs) ∙ sym (find_filter is_none fs k es))

      pub either_is : IsCombined R of_either es fs m → m ≡ union_of R (only_in R es fs) (only_in R fs es)
      either_is is =
          let mine = ascending_filter R (λ p. is_none (find R p.0 fs)) es up in
          let theirs = ascending_filter R (λ p. is_none (find R p.0 es)) fs up' in
          ascending_unique R o m (union_of R (only_in R es fs) (only_in R fs es)) is.ascending (ascending_put_all (only_in R fs es) (only_in R es fs) theirs)
          (λ k. is.finds k ∙ picked_either (find R k es) (find R k fs) ∙ sym (find_put_all k (only_in R fs es) (only_in R es fs) mine
          ∙ rw (find_filter is_none fs k es, find_filter is_none es k fs) refl))

      pub turned_is : (kept : Kept) → IsCombined R (turned kept) fs es m → IsCombined R kept es fs m
      turned_is kept is = record {
        ascending = is.ascending;
        finds = λ k. is.finds k ∙ pick_turned kept (find R k es) (find R k fs);
        few = omega (arith, is.few);
      }

-- the same, of a tree that was made of two
module _ {K V : Type 0} (R : K → K → Ordering) (o : IsTotalOrder R) (es fs : List (K × V)) (up : IsAscending R es) (up' : IsAscending R fs) {E : Type 0}
    (result : Result (Shape K V) E) where
  pub turned_result : (kept : Kept) → IfOk result (λ t. IsCombined R (turned kept) fs es t.entries) → IfOk result (λ t. IsCombined R kept es fs t.entries)
  turned_result kept = IfOk-weaker result (λ t. IsCombined R (turned kept) fs es t.entries) (λ t. IsCombined R kept es fs t.entries)
      (λ t is. turned_is R o es fs t.entries up up' kept is)

few_filtered : {T : Type 0} (f : T → Bool) (es : List T) → length (filter f es) ≤ length es
few_filtered f [] = omega arith
few_filtered f (e ∷ es) = let rest = few_filtered f es in elim (f e) as (λ b. length (cond b (e ∷ filter f es) (filter f es)) ≤ suc (length es))
    [ true ↦ omega (arith, rest) | false ↦ omega (arith, rest) ]

module _ {K V : Type 0} (R : K → K → Ordering) (es fs : List (K × V)) where
  pub few_both : length (both_in R es fs) ≤ length es
  few_both = few_filtered (λ p. is_some (find R p.0 fs)) es

  pub few_only : length (only_in R es fs) ≤ length es
  few_only = few_filtered (λ p. is_none (find R p.0 fs)) es
