-- The reach of hashes, computed.
use Rattle.std.proofs.Common.{◌≡◌, ℕ, ◌+◌, ◌*◌, ◌^◌, ◌≤◌, Bool, List, IsSome, refl, ap, ◌∙◌, arith}
use Rattle.rpds_core.specs.declared.steps.Steps.{Steps}
use Rattle.rpds_hash.specs.Digits.{reach, hash_count}
use Rattle.rpds_hash.specs.HashedMap.{HashedMap, find, without, hashes_of}
use Rattle.tests_hashed.specs.HashVisits.{VisitsAmong, MatchesAmong, LookUpRows}

module _ {K V H : Type 0} (eq : K → K → Bool) (hash : K → ℕ) (m : HashedMap K V H) (k : K) (old new : Steps) where
  module _ (v : IsSome (find eq k m.entries) → new.visited ≡ old.visited + (reach m.degree (hash k) (hashes_of hash (without eq k m.entries)) + 1)) where
    among : (degree h : ℕ) (others : List ℕ) (nodes : ℕ) → reach degree h others + 1 ≡ nodes → VisitsAmong eq hash m k old new degree h others nodes
    among degree h others nodes e = λ same_degree same_hash same_others there. v there ∙ ap (λ n. old.visited + n) (rw (same_degree, same_hash, same_others) e)

    module _ (w : new.matched ≤ old.matched + hash_count (hash k) (hashes_of hash m.entries)) where
      matching : (h : ℕ) (all : List ℕ) (keys : ℕ) → hash_count h all ≡ keys → MatchesAmong eq hash m k old new h all keys
      matching h all keys e = λ same_hash same_all. (let c : hash_count (hash k) (hashes_of hash m.entries) ≡ keys = rw (same_hash, same_all) e in omega (arith, w, c))

      pub look_up_rows : LookUpRows eq hash m k old new
      look_up_rows = (
        among 16 66 _ 2 refl,
        among 16 22 _ 3 refl,
        among 16 38 _ 3 refl,
        among 16 (7 * 16 ^ 15 + 8) _ 17 refl,
        among 16 (7 * 16 ^ 15 + 8) _ 2 refl,
        among 2 0 _ 65 refl,
        among 2 (2 ^ 63) _ 65 refl,
        among 2 0 _ 65 refl,
        among 2 0 _ 65 refl,
        matching 0 _ 100 refl,
        among 2 0 _ 1 refl,
        among 64 1 _ 1 refl,
        among 64 1 _ 3 refl,
        among 64 65 _ 3 refl,
        among 64 0 _ 12 refl,
        among 64 (2 ^ 60) _ 12 refl,
      )
