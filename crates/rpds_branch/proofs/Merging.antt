-- Conflicts of a merge, and what a merge leaves as it is.
use Rattle.std.proofs.Common.{◌≡◌, ◌&&◌, Bool, MatchBool, true, false, cond, if◌then◌else◌, Option, Some, None, is_some, List, [], ◌∷◌, filter, Result, refl, sym, ap, subst, ◌∙◌}
use Rattle.std.specs.Borrow.{Bor}
use Rattle.std.specs.Cmp.{IsEquivalence, IsTotalOrder}
use Rattle.std.specs.Map.{keys_of}
use Rattle.std.specs.Option.{option_map}
use Rattle.std.specs.Ordering.{is_eq}
use Rattle.std.specs.declared.cmp.Ordering.{Ordering}
use Rattle.std.specs.declared.cmp.Ordering.TheVariants.{Less, Equal, Greater}
use Rattle.rpds_tree.proofs.MergeSteps.{both_alike, no_conflict_at, not_apart, not_theirs}
use Rattle.rpds_tree.specs.Differences.{differ, value_of}
use Rattle.rpds_tree.specs.Merges.{IsMergedAt, IsResolved, is_conflict_at, merged_at}
use Rattle.rpds_tree.specs.OrderedSet.{find_member}
use Rattle.rpds_tree.specs.Pairs.{find}
use Rattle.rpds_branch.specs.Branches.{SparesOthers}
use denote.Param.Members.{Shared}

-- nothing differs from itself
pub own : {V : Type 0} {same : V → V → Bool} → IsEquivalence same → (a : Option V) → differ same a a ≡ false
own e None = refl
own e (Some v) = rw (e.refl v) refl

module _ {K V : Type 0} (R : K → K → Ordering) {same : V → V → Bool} (e : IsEquivalence same) where
  -- a key that isn't touched has no other value
  pub unchanged : (touched base current : List (K × V)) → SparesOthers R touched base current → (k : K) → find R k touched ≡ None
      → differ same (value_of R k base) (value_of R k current) ≡ false
  unchanged touched base current spares k none =
      ap (λ (f : Option (K × V)). differ same (value_of R k base) (option_map (λ p. p.1) f)) (spares k none) ∙ own e (value_of R k base)

module _ {K V : Type 0} {R : K → K → Ordering} (o : IsTotalOrder R) {same : V → V → Bool} (e : IsEquivalence same) (base ours theirs : List (K × V)) where
  -- the conflicts among the keys of these pairs
  abbrev pub conflicts_in : List (K × V) → List K
  conflicts_in ps = filter (λ j. is_conflict_at R same base ours theirs j) (keys_of ps)

  and_false : (a : Bool) → (a && false) ≡ false
  and_false true = refl
  and_false false = refl

  has_conflict : (k : K) (ps : List (K × V)) → is_some (find_member R k (conflicts_in ps)) ≡ (is_conflict_at R same base ours theirs k && is_some (find R k ps))
  has_conflict k [] = sym (and_false (is_conflict_at R same base ours theirs k))
  has_conflict k (p ∷ ps) = go (has_conflict k ps) (R k p.0) refl (is_conflict_at R same base ours theirs p.0) refl
    where
      go : is_some (find_member R k (conflicts_in ps)) ≡ (is_conflict_at R same base ours theirs k && is_some (find R k ps)) → (c : Ordering) → R k p.0 ≡ c
          → (b : Bool) → is_conflict_at R same base ours theirs p.0 ≡ b
          → is_some (find_member R k (cond b (p.0 ∷ conflicts_in ps) (conflicts_in ps)))
          ≡ (is_conflict_at R same base ours theirs k && is_some (cond (is_eq c) (Some p) (find R k ps)))
      go before Less is true h = rw is before
      go before Less is false h = before
      go before Greater is true h = rw is before
      go before Greater is false h = before
      go before Equal is true h = rw (is, both_alike o same base ours theirs p.0 k is, h) refl
      go before Equal is false h = before ∙ rw (both_alike o same base ours theirs p.0 k is, h) refl

  -- a key is among the conflicts exactly where it is one
  pub conflicts_are : (touched : List (K × V)) → SparesOthers R touched base theirs → (k : K)
      → is_some (find_member R k (conflicts_in touched)) ≡ is_conflict_at R same base ours theirs k
  conflicts_are touched spares k = has_conflict k touched ∙ go (find R k touched) refl (is_conflict_at R same base ours theirs k) refl
    where
      go : (found : Option (K × V)) → find R k touched ≡ found → (b : Bool) → is_conflict_at R same base ours theirs k ≡ b → (b && is_some found) ≡ b
      go (Some p) is true h = refl
      go (Some p) is false h = refl
      go None is true h = absurd (cc (no_conflict_at R same base ours theirs touched (unchanged R e touched base theirs spares) k is, h))
      go None is false h = refl

module _ {K V : Type 0} (R : K → K → Ordering) (same : V → V → Bool) (base ours theirs new : List (K × V)) (k : K) where
  -- a merge leaves what they didn't change
  pub kept : find R k new ≡ merged_at R same base ours theirs k → differ same (value_of R k base) (value_of R k theirs) ≡ false
      → find R k new ≡ find R k ours
  kept is none = is ∙ ap (λ a. if a then find R k theirs else find R k ours) (not_theirs same (value_of R k base) (value_of R k ours) (value_of R k theirs) none)

  module _ {F E : Type 0} (g : Shared F (Bor K × (Option (Bor V) × (Option (Bor V) × (Option (Bor V) × Unit {0})))) (Result (Option V) E)) (f : F) where
    -- the same, where conflicts are settled
    pub kept_of : IsMergedAt R same g f base ours theirs k (find R k new) → differ same (value_of R k base) (value_of R k theirs) ≡ false
        → find R k new ≡ find R k ours
    kept_of is none = kept
        (subst (λ c. MatchBool c (IsResolved R g f k (value_of R k base) (value_of R k ours) (value_of R k theirs) (option_map (λ p. p.1) (find R k new)))
        (find R k new ≡ merged_at R same base ours theirs k)) (not_apart same (value_of R k base) (value_of R k ours) (value_of R k theirs) none) is) none
