-- What a merge of two versions of a map has.
use Rattle.std.specs.Prelude.{◌≡◌, ◌&&◌, Bool, MatchBool, not, if◌then◌else◌, Ok, Option, List, Result}
use Rattle.std.specs.Borrow.{Bor}
use Rattle.std.specs.Fn.{FnReturns}
use Rattle.std.specs.Option.{option_copied, option_map}
use Rattle.std.specs.declared.cmp.Ordering.{Ordering}
use Rattle.std.specs.declared.cmp.Ordering.TheVariants.{Equal}
use denote.Param.Members.{Shared}
use Rattle.rpds_red_black.specs.Pairs.{find}
use Rattle.rpds_tree.specs.Differences.{differ, value_of}

module _ {V : Type 0} (same : V → V → Bool) where
  -- they alone changed the value, which may be absent
  abbrev pub is_theirs : Option V → Option V → Option V → Bool
  is_theirs base ours theirs = not (differ same base ours) && differ same base theirs

  -- both changed it, and not alike
  abbrev pub is_conflict : Option V → Option V → Option V → Bool
  is_conflict base ours theirs = differ same base ours && differ same base theirs && differ same ours theirs

  -- the value in a merge, in which `settle` tells those that both changed, and not alike
  abbrev pub merged_value : (Option V → Option V → Option V → Option V) → Option V → Option V → Option V → Option V
  merged_value settle base ours theirs =
      if is_conflict base ours theirs then settle base ours theirs else (if is_theirs base ours theirs then theirs else ours)

module _ {K V : Type 0} (R : K → K → Ordering) (same : V → V → Bool) (base ours theirs : List (K × V)) where
  -- they alone changed the key's value
  abbrev pub is_theirs_at : K → Bool
  is_theirs_at k = is_theirs same (value_of R k base) (value_of R k ours) (value_of R k theirs)

  -- both changed it, and not alike
  abbrev pub is_conflict_at : K → Bool
  is_conflict_at k = is_conflict same (value_of R k base) (value_of R k ours) (value_of R k theirs)

  -- theirs where they alone changed the key's value, and else ours
  abbrev pub merged_at : K → Option (K × V)
  merged_at k = if is_theirs_at k then find R k theirs else find R k ours

-- a call of `resolve` at a key that is equal to k, and at these values of it, may answer `answer`
pub record IsResolved {F K V E : Type 0} (R : K → K → Ordering)
    (g : Shared F (Bor K × (Option (Bor V) × (Option (Bor V) × (Option (Bor V) × Unit {0})))) (Result (Option V) E)) (resolve : F) (k : K)
    (base ours theirs answer : Option V) : Type 0 where
  pub key : Bor K
  pub equal : R k key.now ≡ Equal
  pub before : Option (Bor V)
  pub our : Option (Bor V)
  pub their : Option (Bor V)
  pub shows : (option_copied before ≡ base) × (option_copied our ≡ ours) × (option_copied their ≡ theirs)
  pub says : FnReturns g resolve (key, (before, (our, (their, tt)))) (Ok answer)

module _ {F K V E : Type 0} (R : K → K → Ordering) (same : V → V → Bool)
    (g : Shared F (Bor K × (Option (Bor V) × (Option (Bor V) × (Option (Bor V) × Unit {0})))) (Result (Option V) E)) (resolve : F)
    (base ours theirs : List (K × V)) where
  -- what the key has in a merge: the value that `resolve` answers where both changed it, and not alike, and else theirs or ours
  abbrev pub IsMergedAt : K → Option (K × V) → Type 0
  IsMergedAt k found = MatchBool (is_conflict_at R same base ours theirs k)
      (IsResolved R g resolve k (value_of R k base) (value_of R k ours) (value_of R k theirs) (option_map (λ p. p.1) found))
      (found ≡ merged_at R same base ours theirs k)

-- each call of `resolve` answers what `settle` tells of the values
abbrev pub SettlesBy : {F K V E : Type 0} → Shared F (Bor K × (Option (Bor V) × (Option (Bor V) × (Option (Bor V) × Unit {0})))) (Result (Option V) E)
    → F → (Option V → Option V → Option V → Option V) → Type 0
SettlesBy {K = K} {V = V} g resolve settle = (key : Bor K) (before our their : Option (Bor V)) (answer : Option V)
    → FnReturns g resolve (key, (before, (our, (their, tt)))) (Ok answer)
    → answer ≡ settle (option_copied before) (option_copied our) (option_copied their)
