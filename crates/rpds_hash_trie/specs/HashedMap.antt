-- What a hashed map is seen as.
use Rattle.std.specs.Prelude.{◌≡◌, ℕ, ◌+◌, ◌≤◌, Bool, not, List, length, map, fold, filter, find as first, Option}
use Rattle.std.specs.Hash.{HashWrites}
use Rattle.std.specs.Map.{keys_of}
use Rattle.std.specs.declared.hash.Hasher as hasher
use Rattle.std.specs.declared.hash.BuildHasher as builder
use Rattle.std.specs.List.{AllByRecursion, IsDistinct}
use Rattle.rpds_hash_trie.specs.Digits.{IsDegree, FollowDigits, reach}
use Rattle.rpds_hash_trie.specs.HashTrie.{Stored, Trie}

-- its pairs in the order of a walk, how many children a branch may have, and what makes its hashers
pub record HashedMap (K V H : Type 0) : Type 0 where
  pub entries : List (K × V)
  pub degree : ℕ
  pub hasher : H

-- the hash of a key: a hasher is fed `input k`
abbrev pub key_hash : {H S K : Type 0} → builder.Ghosts H S → hasher.Ghosts S → (K → HashWrites) → H → K → ℕ
key_hash b s input h k = s.finish (fold s.write (b.build_hasher h) (input k))

module _ {K V : Type 0} where
  -- the hashes of the pairs' keys
  abbrev pub hashes_of : (K → ℕ) → List (K × V) → List ℕ
  hashes_of hash es = map hash (keys_of es)

  -- the first pair whose key is the same as s: s is a key, or what a key's form is seen as
  abbrev pub find : {S : Type 0} → (K → S → Bool) → S → List (K × V) → Option (K × V)
  find same s ps = first (λ p. same p.0 s) ps

  -- the pairs whose key isn't the same as s
  abbrev pub without : {S : Type 0} → (K → S → Bool) → S → List (K × V) → List (K × V)
  without same s ps = filter (λ p. not (same p.0 s)) ps

  -- the pairs of a trie's entries
  abbrev pub pairs_of : List (Stored K V) → List (K × V)
  pairs_of = map (λ e. e.1)

  -- no key is equal to two of the keys
  abbrev pub AllApart : (K → K → Bool) → List (K × V) → Type 0
  AllApart eq ps = (k : K) → length ps ≤ length (without eq k ps) + 1

  -- each entry has the hash of its key
  abbrev pub AllHashed : (K → ℕ) → List (Stored K V) → Type 0
  AllHashed hash = AllByRecursion (λ e. e.0 ≡ hash e.1.0)

-- how many branches lie above the key that is the same as s, whose hash is h: the `reach` of h among the hashes of the other keys
abbrev pub key_reach : {K S V H : Type 0} → (K → S → Bool) → S → ℕ → (K → ℕ) → HashedMap K V H → ℕ
key_reach same s h hash m = reach m.degree h (hashes_of hash (without same s m.entries))

-- the keys are pairwise unequal, and come in the order of the digits of their hashes
pub record IsHashed {K V H : Type 0} (eq : K → K → Bool) (hash : K → ℕ) (m : HashedMap K V H) : Type 0 where
  pub degree : IsDegree m.degree
  pub distinct : IsDistinct eq (keys_of m.entries)
  pub in_order : FollowDigits m.degree (hashes_of hash m.entries)

-- the trie holds `size` pairs of distinct keys, with their hashes
pub record IsMap {K V : Type 0} (eq : K → K → Bool) (hash : K → ℕ) (t : Trie K V) (size : ℕ) : Type 0 where
  pub counted : size ≡ length t.entries
  pub hashes : AllHashed hash t.entries
  pub apart : AllApart eq (pairs_of t.entries)
