-- What a union has where both maps have a key, and a closure combines their values.
use Rattle.std.specs.Prelude.{◌≡◌, Ok, Option, Some, Result}
use Rattle.std.specs.Borrow.{Bor}
use Rattle.std.specs.Fn.{FnReturns}
use Rattle.std.specs.Option.{option_or}
use denote.Param.Members.{Shared}

-- a call of f at a `&` to the key and one to each of its values may answer with this value
pub record CombinesTo {F K V E : Type 0} (g : Shared F (Bor K × (Bor V × (Bor V × Unit {0}))) (Result V E)) (f : F) (k : K)
    (our their value : V) : Type 0 where
  pub key : Bor K
  pub our_value : Bor V
  pub their_value : Bor V
  pub shows : (key.now ≡ k) × (our_value.now ≡ our) × (their_value.now ≡ their)
  pub says : FnReturns g f (key, (our_value, (their_value, tt))) (Ok value)

-- what a key has in a union: our key with what a call answers at both values, where both maps have it, and else the pair of either
abbrev pub IsUnitedAt : {F K V E : Type 0} → Shared F (Bor K × (Bor V × (Bor V × Unit {0}))) (Result V E) → F → Option (K × V) → Option (K × V)
    → Option (K × V) → Type 0
IsUnitedAt {V = V} g f (Some p) (Some q) found = (value : V) × CombinesTo g f p.0 p.1 q.1 value × (found ≡ Some (p.0, value))
IsUnitedAt g f ours theirs found = found ≡ option_or ours theirs

-- the same, by a function of the key and both values
abbrev pub united_by : {K V : Type 0} → (K → V → V → V) → Option (K × V) → Option (K × V) → Option (K × V)
united_by combine (Some p) (Some q) = Some (p.0, combine p.0 p.1 q.1)
united_by combine ours theirs = option_or ours theirs

-- each call of f answers what `combine` tells of the key and both values
abbrev pub CombinesBy : {F K V E : Type 0} → Shared F (Bor K × (Bor V × (Bor V × Unit {0}))) (Result V E) → F → (K → V → V → V) → Type 0
CombinesBy {K = K} {V = V} g f combine = (key : Bor K) (our their : Bor V) (value : V) → FnReturns g f (key, (our, (their, tt))) (Ok value)
    → value ≡ combine key.now our.now their.now
