-- What differs between two versions of a hashed map.
use Rattle.std.specs.Prelude.{◌++◌, Bool, true, false, Option, Some, None, List, filter, is_none, map}
pub use Rattle.rpds_core.specs.Changes.{ChangeNoValue, change_value, member_change_value, members_changed}
use Rattle.rpds_hash.specs.HashMerges.{differ}
use Rattle.rpds_hash.specs.HashedSet.{find_member}
use Rattle.rpds_hash_trie.specs.HashedMap.{find}

-- a pair of the older version beside what the newer one has of its key: the key as that stores it, and both values
abbrev pub change_of : {K V : Type 0} → K × V → Option (K × V) → K × (Option V × Option V)
change_of p None = (p.0, (Some p.1, None))
change_of p (Some q) = (q.0, (Some p.1, Some q.1))

module _ {K V : Type 0} (eq : K → K → Bool) where
  -- the older version's pairs that the newer one lacks or has with another value
  abbrev pub changed : (V → V → Bool) → List (K × V) → List (K × V) → List (K × (Option V × Option V))
  changed same new es = filter (λ d. differ same d.1.0 d.1.1) (map (λ p. change_of p (find eq p.0 new)) es)

  -- the newer version's pairs whose keys the older one lacks
  abbrev pub added : List (K × V) → List (K × V) → List (K × (Option V × Option V))
  added old fs = map (λ p. (p.0, (None, Some p.1))) (filter (λ p. is_none (find eq p.0 old)) fs)

  -- first those of the older version, then those of the newer one
  abbrev pub differences : (V → V → Bool) → List (K × V) → List (K × V) → List (K × (Option V × Option V))
  differences same old new = changed same new old ++ added old new

-- of two versions of a set, a member of one alone, and whether that is the newer one
abbrev pub member_differences : {T : Type 0} → (T → T → Bool) → List T → List T → List (T × Bool)
member_differences eq old new =
    map (λ m. (m, false)) (filter (λ m. is_none (find_member eq m new)) old) ++ map (λ m. (m, true)) (filter (λ m. is_none (find_member eq m old)) new)
