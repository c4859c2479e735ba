-- How many nodes a look-up in a hashed map visits, and how many keys it matches, in worked rows that tests meet.
use Rattle.std.specs.Prelude.{◌≡◌, ℕ, ◌+◌, ◌*◌, ◌^◌, ◌≤◌, Bool, List, [], ◌∷◌, replicate, IsSome}
use Rattle.rpds_core.specs.declared.steps.Steps.{Steps}
use Rattle.rpds_hash.specs.HashedMap.{HashedMap, find, without, hashes_of}

module _ {K V H : Type 0} (eq : K → K → Bool) (hash : K → ℕ) (m : HashedMap K V H) (k : K) (old new : Steps) where
  -- at the degree, where the key is stored, its hash is h and those of the other keys are these: so many nodes were visited
  abbrev pub VisitsAmong : ℕ → ℕ → List ℕ → ℕ → Type 0
  VisitsAmong degree h others nodes =
      m.degree ≡ degree
      → hash k ≡ h
      → hashes_of hash (without eq k m.entries) ≡ others
      → IsSome (find eq k m.entries)
      → new.visited ≡ old.visited + nodes

  -- where the hashes of all keys are these, at most so many keys were matched with one of the hash h
  abbrev pub MatchesAmong : ℕ → List ℕ → ℕ → Type 0
  MatchesAmong h all keys = hash k ≡ h → hashes_of hash m.entries ≡ all → new.matched ≤ old.matched + keys

  -- the hash of two of the five keys
  abbrev last : ℕ
  last = 7 * 16 ^ 15 + 8

  abbrev pub LookUpRows : Type 0
  LookUpRows =
      -- five keys, two of them of one hash
      VisitsAmong 16 66 (22 ∷ 38 ∷ last ∷ last ∷ []) 2
      × VisitsAmong 16 22 (66 ∷ 38 ∷ last ∷ last ∷ []) 3
      × VisitsAmong 16 38 (66 ∷ 22 ∷ last ∷ last ∷ []) 3
      × VisitsAmong 16 last (66 ∷ 22 ∷ 38 ∷ last ∷ []) 17
      -- one of the two taken out
      × VisitsAmong 16 last (66 ∷ 22 ∷ 38 ∷ []) 2
      -- two hashes that differ in the highest digit alone, two keys of one hash
      × VisitsAmong 2 0 (2 ^ 63 ∷ []) 65
      × VisitsAmong 2 (2 ^ 63) (0 ∷ []) 65
      × VisitsAmong 2 0 (0 ∷ []) 65
      -- a hundred keys of one hash, and the last that is left of them
      × VisitsAmong 2 0 (replicate 99 0) 65
      × MatchesAmong 0 (replicate 100 0) 100
      × VisitsAmong 2 0 [] 1
      -- at degree 64
      × VisitsAmong 64 1 [] 1
      × VisitsAmong 64 1 (65 ∷ []) 3
      × VisitsAmong 64 65 (1 ∷ []) 3
      × VisitsAmong 64 0 (2 ^ 60 ∷ []) 12
      × VisitsAmong 64 (2 ^ 60) (0 ∷ []) 12
