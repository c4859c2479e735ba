-- What a hashed map ends as, once a reference to one of its values has ended.
use Rattle.std.specs.Prelude.{Bool, Result}
use Rattle.std.specs.Borrow.{Fml, RattleType, MutBor, LendsIfOk}
use Rattle.std.specs.Map.{set_value}
use Rattle.std.specs.HashMap.Lent.{HashMembers}
use Rattle.std.specs.declared.alloc.Allocator as alloc
use Rattle.std.specs.declared.hash.Hasher as hasher
use Rattle.std.specs.declared.hash.BuildHasher as builder
use Rattle.rpds_hash.specs.contracts.map.hash_trie_map.HashTrieMap.{the_row}
use Rattle.rpds_hash_trie.specs.HashedMap.{HashedMap}

-- the map with v as the value of the key that is the same as s: a key, or what a key's form is seen as; the stored key stays
abbrev pub map_with : {S K V H : Type 0} → (K → S → Bool) → S → HashedMap K V H → V → HashedMap K V H
map_with same s m v = record m { entries = set_value (λ k. same k s) m.entries v }

module _ (K V H A S : RattleType) (key : HashMembers K.Denot) (build : builder.Ghosts H.Denot S.Denot) (hash : hasher.Ghosts S.Denot) (heap : alloc.Ghosts A.Denot) where
  -- the map's type, as the logic holds it
  abbrev pub map_row : RattleType
  map_row = the_row K V H A S (record { eq = key.eq }) (record { hash_input = key.hash_input }) build hash heap

  -- the map has at s the last value written through r, and is as it was where there is no reference
  abbrev pub lends_value : {S : Type 0} → MutBor (HashedMap K.Denot V.Denot H.Denot) → (K.Denot → S → Bool) → S → {E : Type 0} → Result (MutBor V.Denot) E → Fml
  lends_value m same s r = LendsIfOk map_row V m r (map_with same s m.now) m.now
