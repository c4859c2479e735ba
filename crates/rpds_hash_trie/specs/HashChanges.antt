-- A hashed map after a change.
use Rattle.std.specs.Prelude.{◌≡◌, ℕ, ◌^◌, Bool, List, ◌∷◌, reverse, IsSome}
use Rattle.std.specs.List.Sorted.{IsPermutation}
use Rattle.rpds_hash_trie.specs.HashedMap.{HashedMap, IsMap, find, without, pairs_of}
use Rattle.rpds_hash_trie.specs.HashTrie.{Trie}

-- new has the pair p and those of old whose keys aren't equal to its key
pub record IsPut {K V H : Type 0} (eq : K → K → Bool) (p : K × V) (old new : HashedMap K V H) : Type 0 where
  pub pairs : IsPermutation (p ∷ without eq p.0 old.entries) new.entries
  pub degree : new.degree ≡ old.degree
  pub hasher : new.hasher ≡ old.hasher

-- each key has the last of the pairs that have it
abbrev pub AreCollected : {K V : Type 0} → (K → K → Bool) → List (K × V) → List (K × V) → Type 0
AreCollected {K} eq pairs entries = (k : K) → find eq k entries ≡ find eq k (reverse pairs)

-- the trie and the size of the map with the pair p put in
pub record IsGrown {K V H : Type 0} (eq : K → K → Bool) (hash : K → ℕ) (p : K × V) (old : HashedMap K V H) (t : Trie K V) (size : ℕ) : Type 0 where
  pub map_is : IsMap eq hash t size
  pub pairs : IsPermutation (p ∷ without eq p.0 old.entries) (pairs_of t.entries)
  pub degree : 2 ^ t.bits ≡ old.degree

-- the trie and the size of the map without the key that is the same as s, which it has
pub record IsShrunk {K S V H : Type 0} (eq : K → K → Bool) (hash : K → ℕ) (same : K → S → Bool) (s : S) (old : HashedMap K V H) (t : Trie K V) (size : ℕ) : Type 0 where
  pub there : IsSome (find same s old.entries)
  pub map_is : IsMap eq hash t size
  pub pairs : pairs_of t.entries ≡ without same s old.entries
  pub degree : 2 ^ t.bits ≡ old.degree
