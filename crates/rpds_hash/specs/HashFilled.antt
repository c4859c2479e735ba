-- What a hashed map ends as, once a reference to the value of a key that it had or was given has ended.
use Rattle.std.specs.Prelude.{◌≡◌, ◌⊎◌, Bool, MatchOption, None, Result, Some}
use Rattle.std.specs.Borrow.{Fml, RattleType, MutBor, LendsSoOk}
use Rattle.std.specs.HashMap.Lent.{HashMembers}
use Rattle.std.specs.declared.alloc.Allocator as alloc
use Rattle.std.specs.declared.hash.Hasher as hasher
use Rattle.std.specs.declared.hash.BuildHasher as builder
use Rattle.rpds_hash.specs.Altered.{IsAltered}
use Rattle.rpds_hash.specs.HashMapLends.{map_row, map_with}
use Rattle.rpds_hash_trie.specs.HashedMap.{HashedMap, find}

-- new has v at k: under the stored key where old has an equal one, all else as it was, and else k is put in
abbrev pub IsFilledAt : {K V H : Type 0} → (K → K → Bool) → K → V → HashedMap K V H → HashedMap K V H → Type 0
IsFilledAt eq k v old new = MatchOption (find eq k old.entries) (IsAltered eq k (Some v) old new) (λ _. new ≡ map_with eq k old v)

-- old lacks k, and new has it with a value of which Made holds
pub record IsPutMade {K V H : Type 0} (eq : K → K → Bool) (k : K) (Made : V → Type 0) (old new : HashedMap K V H) : Type 0 where
  pub absent : find eq k old.entries ≡ None
  pub value : V
  pub made : Made value
  pub put : IsAltered eq k (Some value) old new

module _ (K V H A S : RattleType) (key : HashMembers K.Denot) (build : builder.Ghosts H.Denot S.Denot) (hash : hasher.Ghosts S.Denot) (heap : alloc.Ghosts A.Denot) where
  -- the map has at k the last value written through r, under its stored key or, where it had none, under k. Where there is no reference it
  -- is as it was, or has k with a value of which Made holds.
  abbrev pub lends_or_puts : MutBor (HashedMap K.Denot V.Denot H.Denot) → K.Denot → (V.Denot → Type 0) → {E : Type 0} → Result (MutBor V.Denot) E → Fml
  lends_or_puts m k Made r =
      LendsSoOk (map_row K V H A S key build hash heap) V m r (λ d v. IsFilledAt key.eq k v m.now d) (λ d. (d ≡ m.now) ⊎ IsPutMade key.eq k Made m.now d)
