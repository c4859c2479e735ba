-- What callers need of branches and merges.
use Rattle.std.proofs.Common.{◌≡◌, ◌≢◌, ◌&&◌, not, Bool, true, false, if◌then◌else◌, Option, Some, None, List, [], ◌∷◌, filter, map, refl, sym, ap, subst, ◌∙◌}
use Rattle.std.specs.Cmp.{IsEquivalence, IsTotalOrder}
use Rattle.std.specs.Option.{option_map}
use Rattle.std.specs.Ordering.{is_eq}
use Rattle.std.specs.declared.cmp.Ordering.{Ordering}
use Rattle.std.specs.declared.cmp.Ordering.TheVariants.{Less, Equal, Greater}
use Rattle.rpds_core.specs.Keys.{IsSearch}
use Rattle.rpds_red_black.proofs.Cutting.{ascending_unique}
use Rattle.rpds_red_black.proofs.Pairs.{ascending_filter, ascending_put}
use Rattle.rpds_red_black.specs.Pairs.{IsAscending, find, find_by, put, put_all, without_by}
use Rattle.rpds_tree.proofs.Copied.{copied}
use Rattle.rpds_tree.proofs.FormLaws.{found_among_others}
use Rattle.rpds_tree.proofs.MapLaws.{find_put_other}
use Rattle.rpds_tree.proofs.MergeSteps.{conflict_of_both, no_conflict_alone, not_apart, not_theirs, not_theirs_of_ours, theirs_alone}
use Rattle.rpds_tree.specs.Altered.{with_found}
use Rattle.rpds_tree.specs.Differences.{differ, differences, value_of}
use Rattle.rpds_tree.specs.Merges.{is_conflict, is_conflict_at, is_theirs_at, merged_at}
use Rattle.rpds_branch.proofs.Merging.{own}

module _ {K V : Type 0} {R : K → K → Ordering} (o : IsTotalOrder R) {seek : K → Ordering} (finds : IsSearch R seek) where
  pub ascending_copied : (others es : List (K × V)) → IsAscending R es → IsAscending R (with_found R seek (find_by seek others) es)
  ascending_copied others es up = go (find_by seek others)
    where
      go : (found : Option (K × V)) → IsAscending R (with_found R seek found es)
      go (Some p) = ascending_put R o p es up
      go None = ascending_filter R (λ e. not (is_eq (seek e.0))) es up

  -- a change and its revert
  module _ (es changed : List (K × V)) (up : IsAscending R es) (up' : IsAscending R changed)
      (others : (k : K) → seek k ≢ Equal → find R k changed ≡ find R k es) where
    put_back_from : with_found R seek (find_by seek es) changed ≡ es
    put_back_from = ascending_unique R o (with_found R seek (find_by seek es) changed) es (ascending_copied es changed up') up
        (λ k. copied o finds k es changed ∙ go k (seek k) refl)
      where
        go : (k : K) (c : Ordering) → seek k ≡ c → (if is_eq c then find R k es else find R k changed) ≡ find R k es
        go k Equal is = refl
        go k Less is = others k (λ h. cc (h, is))
        go k Greater is = others k (λ h. cc (h, is))

  pub put_back : (p : K × V) (es : List (K × V)) → IsAscending R es → seek p.0 ≡ Equal → with_found R seek (find_by seek es) (put R p es) ≡ es
  put_back p es up tied = put_back_from es (put R p es) up (ascending_put R o p es up)
      (λ k apart. find_put_other o p es k (λ near. apart (finds.tied p.0 k tied ∙ near)))

  pub taken_back : (es : List (K × V)) → IsAscending R es → with_found R seek (find_by seek es) (without_by seek es) ≡ es
  taken_back es up = put_back_from es (without_by seek es) up (ascending_filter R (λ e. not (is_eq (seek e.0))) es up)
      (λ k apart. found_among_others o finds k es apart)

module _ {K V : Type 0} (R : K → K → Ordering) {same : V → V → Bool} (e : IsEquivalence same) where
  -- nothing differs from itself
  pub no_differences : (es : List (K × V)) → differences R same es es ≡ []
  no_differences es = go (put_all R es es)
    where
      go : (ps : List (K × V)) → filter (λ (d : K × (Option V × Option V)). differ same d.1.0 d.1.1) (map (λ p. (p.0, (value_of R p.0 es, value_of R p.0 es))) ps) ≡ []
      go [] = refl
      go (p ∷ ps) = rw (own e (value_of R p.0 es)) (go ps)

  turned : (a b : Option V) → differ same a b ≡ differ same b a
  turned None None = refl
  turned None (Some y) = refl
  turned (Some x) None = refl
  turned (Some x) (Some y) = ap not (e.symm x y)

  module _ (base ours theirs : List (K × V)) (k : K) where
    abbrev b : Option V
    b = value_of R k base

    abbrev u : Option V
    u = value_of R k ours

    abbrev t : Option V
    t = value_of R k theirs

    merged_by : (alone : Bool) → is_theirs_at R same base ours theirs k ≡ alone
        → merged_at R same base ours theirs k ≡ (if alone then find R k theirs else find R k ours)
    merged_by alone is = ap (λ a. if a then find R k theirs else find R k ours) is

    pub as_ours : differ same b t ≡ false
        → (merged_at R same base ours theirs k ≡ find R k ours) × (is_conflict_at R same base ours theirs k ≡ false)
    as_ours is = (merged_by false (not_theirs same b u t is), not_apart same b u t is)

    pub as_theirs : differ same b u ≡ false → differ same b t ≡ true
        → (merged_at R same base ours theirs k ≡ find R k theirs) × (is_conflict_at R same base ours theirs k ≡ false)
    as_theirs our their = (merged_by true (theirs_alone same b u t our their), no_conflict_alone same b u t our)

    pub alike : differ same u t ≡ false → is_conflict_at R same base ours theirs k ≡ false
    alike is = go (differ same b u) (differ same b t) (differ same u t) is
      where
        go : (x y z : Bool) → z ≡ false → (x && y && z) ≡ false
        go true true z h = h
        go true false z h = refl
        go false y z h = refl

    pub apart : differ same b u ≡ true → differ same b t ≡ true → differ same u t ≡ true
        → (merged_at R same base ours theirs k ≡ find R k ours) × (is_conflict_at R same base ours theirs k ≡ true)
    apart our their both = (merged_by false (not_theirs_of_ours same b u t our), conflict_of_both same b u t our their ∙ both)

    pub conflict_turned : is_conflict_at R same base theirs ours k ≡ is_conflict_at R same base ours theirs k
    conflict_turned = ap (λ z. differ same b t && differ same b u && z) (turned t u) ∙ go (differ same b t) (differ same b u) (differ same u t)
      where
        go : (x y z : Bool) → (x && y && z) ≡ (y && x && z)
        go true true z = refl
        go true false z = refl
        go false true z = refl
        go false false z = refl

  -- the value found differs in nothing from theirs
  abbrev IsLike : List (K × V) → K → Option (K × V) → Type 0
  IsLike theirs k found = differ same (option_map (λ p. p.1) found) (value_of R k theirs) ≡ false

  -- a merge of a branch that changed nothing
  pub of_unchanged : (base theirs : List (K × V)) (k : K) → IsLike theirs k (merged_at R same base base theirs k)
  of_unchanged base theirs k = go (differ same (value_of R k base) (value_of R k theirs)) refl
    where
      go : (c : Bool) → differ same (value_of R k base) (value_of R k theirs) ≡ c → IsLike theirs k (merged_at R same base base theirs k)
      go true is = subst (IsLike theirs k) (sym (as_theirs base base theirs k (own e (value_of R k base)) is).0) (own e (value_of R k theirs))
      go false is = subst (IsLike theirs k) (sym (as_ours base base theirs k is).0) is
