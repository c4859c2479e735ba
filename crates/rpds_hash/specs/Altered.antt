-- A map after a change of what a key has.
use Rattle.std.specs.Prelude.{◌≡◌, ◌∷◌, Bool, Option, None, Some}
use Rattle.rpds_hash_trie.specs.HashChanges.{IsPut}
use Rattle.rpds_hash_trie.specs.HashedMap.{HashedMap, find, without}

-- new has the value under the key, or lost the key where there is none
abbrev pub IsAltered : {K V H : Type 0} → (K → K → Bool) → K → Option V → HashedMap K V H → HashedMap K V H → Type 0
IsAltered {K} eq key (Some value) old new =
    IsPut eq (key, value) old new × ((k : K) → find eq k new.entries ≡ find eq k ((key, value) ∷ old.entries))
IsAltered eq key None old new = new ≡ record old { entries = without eq key old.entries }

-- new has what was found of the key that is the same as s: the pair, in place of an equal key, or nothing
abbrev pub IsGiven : {S K V H : Type 0} → (K → K → Bool) → (K → S → Bool) → S → Option (K × V) → HashedMap K V H → HashedMap K V H → Type 0
IsGiven {K = K} eq same s (Some p) old new = IsPut eq p old new × ((k : K) → find eq k new.entries ≡ find eq k (p ∷ old.entries))
IsGiven eq same s None old new = new ≡ record old { entries = without same s old.entries }
