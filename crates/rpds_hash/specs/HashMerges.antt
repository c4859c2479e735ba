-- What a merge of two versions of a hashed map has.
use Rattle.std.specs.Prelude.{◌≡◌, ◌&&◌, Bool, MatchBool, true, false, not, if◌then◌else◌, Ok, Option, Some, None, List, Result}
use Rattle.std.specs.Borrow.{Bor}
use Rattle.std.specs.Fn.{FnReturns}
use Rattle.std.specs.Option.{option_copied, option_map}
use denote.Param.Members.{Shared}
use Rattle.rpds_hash_trie.specs.HashedMap.{find}

module _ {V : Type 0} (same : V → V → Bool) where
  -- whether a value isn't the one before it, or there was none or is none
  abbrev pub differ : Option V → Option V → Bool
  differ (Some old) (Some new) = not (same old new)
  differ None None = false
  differ old new = true

  -- they alone changed the value, which may be absent
  abbrev pub is_theirs : Option V → Option V → Option V → Bool
  is_theirs base ours theirs = not (differ base ours) && differ base theirs

  -- both changed it, and not alike
  abbrev pub is_conflict : Option V → Option V → Option V → Bool
  is_conflict base ours theirs = differ base ours && differ base theirs && differ ours theirs

  -- the value in a merge, in which `settle` tells those that both changed, and not alike
  abbrev pub merged_value : (Option V → Option V → Option V → Option V) → Option V → Option V → Option V → Option V
  merged_value settle base ours theirs = if is_conflict base ours theirs then settle base ours theirs else (if is_theirs base ours theirs then theirs else ours)

module _ {K V : Type 0} (eq : K → K → Bool) where
  abbrev pub value_of : K → List (K × V) → Option V
  value_of k es = option_map (λ p. p.1) (find eq k es)

  module _ (same : V → V → Bool) (base ours theirs : List (K × V)) where
    -- both changed the key's value, and not alike
    abbrev pub is_conflict_at : K → Bool
    is_conflict_at k = is_conflict same (value_of k base) (value_of k ours) (value_of k theirs)

    -- theirs where they alone changed the key's value, and else ours
    abbrev pub merged_at : K → Option (K × V)
    merged_at k = if is_theirs same (value_of k base) (value_of k ours) (value_of k theirs) then find eq k theirs else find eq k ours

-- a call of `resolve` at a key that is equal to k, and at these values of it, may answer `answer`
pub record IsResolved {F K V E : Type 0} (eq : K → K → Bool)
    (g : Shared F (Bor K × (Option (Bor V) × (Option (Bor V) × (Option (Bor V) × Unit {0})))) (Result (Option V) E)) (resolve : F) (k : K)
    (base ours theirs answer : Option V) : Type 0 where
  pub key : Bor K
  pub equal : eq key.now k ≡ true
  pub before : Option (Bor V)
  pub our : Option (Bor V)
  pub their : Option (Bor V)
  pub shows : (option_copied before ≡ base) × (option_copied our ≡ ours) × (option_copied their ≡ theirs)
  pub says : FnReturns g resolve (key, (before, (our, (their, tt)))) (Ok answer)

module _ {F K V E : Type 0} (eq : K → K → Bool) (same : V → V → Bool)
    (g : Shared F (Bor K × (Option (Bor V) × (Option (Bor V) × (Option (Bor V) × Unit {0})))) (Result (Option V) E)) (resolve : F)
    (base ours theirs : List (K × V)) where
  -- what the key has in a merge: the value that `resolve` answers where both changed it, and not alike, and else theirs or ours
  abbrev pub IsMergedAt : K → Option (K × V) → Type 0
  IsMergedAt k found = MatchBool (is_conflict_at eq same base ours theirs k)
      (IsResolved eq g resolve k (value_of eq k base) (value_of eq k ours) (value_of eq k theirs) (option_map (λ p. p.1) found))
      (found ≡ merged_at eq same base ours theirs k)

-- each call of `resolve` answers what `settle` tells of the values
abbrev pub SettlesBy : {F K V E : Type 0} → Shared F (Bor K × (Option (Bor V) × (Option (Bor V) × (Option (Bor V) × Unit {0})))) (Result (Option V) E)
    → F → (Option V → Option V → Option V → Option V) → Type 0
SettlesBy {K = K} {V = V} g resolve settle = (key : Bor K) (before our their : Option (Bor V)) (answer : Option V)
    → FnReturns g resolve (key, (before, (our, (their, tt)))) (Ok answer)
    → answer ≡ settle (option_copied before) (option_copied our) (option_copied their)
