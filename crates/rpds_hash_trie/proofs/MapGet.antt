-- Keys and their hashes.
use Rattle.rpds_hash_trie.proofs.Words.{◌≡◌, ℕ, suc, ◌+◌, ◌^◌, ◌≤◌, Bool, true, false, eqb, ◌&&◌, ◌⊎◌, inl, inr, List, [], ◌∷◌, Some, None, length, refl, sym, ap, ◌∙◌, subst, arith, Option, IsTrue, IsSome, option_map, IsEquivalence, nat_tests, length-map, digit_count, reach_within, hash_count, Stored, Trie, matches, found, unmatched, hashes_in, HashedMap, key_hash, pairs_of, find, without, AllApart, AllHashed, IsMap, Steps, made_more}
use Rattle.std.specs.Prelude.{fold}
use Rattle.std.specs.Hash.{HashWrites}
use Rattle.std.specs.declared.hash.Hasher as hasher
use Rattle.std.specs.declared.hash.BuildHasher as builder
use Rattle.rpds_hash_trie.specs.Digits.{reach}
use Rattle.rpds_hash_trie.specs.HashTrie.{level_count}
use Rattle.rpds_core.specs.Counts.{IsMadeWithin}
use Rattle.rpds_hash_trie.specs.HashedMap.{hashes_of, key_reach}
use Rattle.rpds_hash_trie.proofs.Digits.{level_count_is}
use Rattle.rpds_hash_trie.proofs.Flat.{each_without}
use Rattle.rpds_hash_trie.proofs.Reach.{reach_most}

-- a test of which both answers are known
pub tells : (b : Bool) → (b ≡ true) ⊎ (b ≡ false)
tells true = inl refl
tells false = inr refl

and_false : (b : Bool) → (b && false) ≡ false
and_false true = refl
and_false false = refl

eqb_refl : (n : ℕ) → eqb n n ≡ true
eqb_refl n = grind (arith, nat_tests)

-- a hash h that is that of the keys that are the same as s
module _ {K S V : Type 0} (same : K → S → Bool) (hash : K → ℕ) (s : S) (h : ℕ) (told : (k : K) → same k s ≡ true → h ≡ hash k) where
  abbrev t : Stored K V → Bool
  t = matches same s h

  -- the hash adds nothing to the test of the key
  pub test_is : (e : Stored K V) → e.0 ≡ hash e.1.0 → t e ≡ same e.1.0 s
  test_is e is = go (tells (same e.1.0 s))
    where
      go : (same e.1.0 s ≡ true) ⊎ (same e.1.0 s ≡ false) → t e ≡ same e.1.0 s
      go (inl y) = let alike : e.0 ≡ h = is ∙ sym (told e.1.0 y) in rw (alike, y, eqb_refl h) refl
      go (inr n) = rw n (and_false (eqb e.0 h))

  pub found_is : (es : List (Stored K V)) → AllHashed hash es → option_map (λ e. e.1) (found t es) ≡ find same s (pairs_of es)
  found_is [] a = refl
  found_is (e ∷ es) a = rw (test_is e a.0) (grind (arith, found_is es a.1))

  pub without_is : (es : List (Stored K V)) → AllHashed hash es → pairs_of (unmatched t es) ≡ without same s (pairs_of es)
  without_is [] a = refl
  without_is (e ∷ es) a = rw (test_is e a.0) (grind (arith, without_is es a.1))

-- the hash of a key is that of the keys that are equal to it
pub told_alike : {K : Type 0} (eq : K → K → Bool) (hash : K → ℕ) → ((x y : K) → IsTrue (eq x y) → hash x ≡ hash y) → (k j : K) → eq j k ≡ true → hash k ≡ hash j
told_alike eq hash alike k j y = sym (alike j k y)

-- keys that are equal to a key are equal to one another
pub key_alike : {K : Type 0} {eq : K → K → Bool} → IsEquivalence eq → (k i j : K) → eq i k ≡ true → eq j k ≡ eq j i
key_alike law k i j y = law.symm j k ∙ sym (law.congr i k j y) ∙ law.symm i j

rest_apart : {K V : Type 0} (eq : K → K → Bool) (p : K × V) (ps : List (K × V)) → AllApart eq (p ∷ ps) → AllApart eq ps
rest_apart eq p ps a j = grind (arith, a j)

-- keys that are the same as s are equal to one key
module _ {K S V : Type 0} (eq : K → K → Bool) (same : K → S → Bool) (s : S) (alike : (j k : K) → same j s ≡ true → same k s ≡ eq k j) where
  pub find_alike : (j : K) → same j s ≡ true → (ps : List (K × V)) → find same s ps ≡ find eq j ps
  find_alike j y [] = refl
  find_alike j y (p ∷ ps) = grind (arith, find_alike j y ps, alike j p.0 y)

  pub without_alike : (j : K) → same j s ≡ true → (ps : List (K × V)) → without same s ps ≡ without eq j ps
  without_alike j y [] = refl
  without_alike j y (p ∷ ps) = grind (arith, without_alike j y ps, alike j p.0 y)

  -- one pair at most has such a key
  apart_at_most : (ps : List (K × V)) → AllApart eq ps → length ps ≤ length (without same s ps) + 1
  apart_at_most [] a = omega arith
  apart_at_most (p ∷ ps) a = go (apart_at_most ps) (tells (same p.0 s))
    where
      go : (AllApart eq ps → length ps ≤ length (without same s ps) + 1) → (same p.0 s ≡ true) ⊎ (same p.0 s ≡ false) → suc (length ps) ≤ length (without same s (p ∷ ps)) + 1
      go ih (inl y) = subst (λ l. suc (length ps) ≤ length l + 1) (sym (without_alike p.0 y (p ∷ ps))) (a p.0)
      go ih (inr n) = let few : length ps ≤ length (without same s ps) + 1 = ih (rest_apart eq p ps a) in rw n (omega arith)

  -- one entry at most has one, and the hash h
  pub once_of : (hash : K → ℕ) (h : ℕ) → ((k : K) → same k s ≡ true → h ≡ hash k) → (es : List (Stored K V)) → AllHashed hash es → AllApart eq (pairs_of es) → length es ≤ length (unmatched (matches same s h) es) + 1
  once_of hash h told es all apart =
      let one : length (pairs_of es) ≤ length (without same s (pairs_of es)) + 1 = apart_at_most (pairs_of es) apart in
      let kept : length (unmatched (matches same s h) es) ≡ length (without same s (pairs_of es)) = sym (length-map (unmatched (matches same s h) es) (λ e. e.1)) ∙ ap length (without_is same hash s h told es all) in
      let whole : length (pairs_of es) ≡ length es = length-map es (λ e. e.1) in
      omega arith

module _ {K V : Type 0} where
  -- each entry's hash is that of its key
  pub hashes_are : (hash : K → ℕ) (es : List (Stored K V)) → AllHashed hash es → hashes_in es ≡ hashes_of hash (pairs_of es)
  hashes_are hash [] a = refl
  hashes_are hash (e ∷ es) a = λ i. a.0 i ∷ hashes_are hash es a.1 i

-- the map is seen of the trie v, and h is the hash of what keys are looked up by, which is the same as those equal to one key
pub record IsSeenMap {K S V H : Type 0} (eq : K → K → Bool) (F : H → K → ℕ) (same : K → S → Bool) (s : S) (sought : H → ℕ) (h : ℕ) (hasher : H) (size : ℕ) (v : Trie K V) (m : HashedMap K V H) : Type 0 where
  pub law : IsEquivalence eq
  pub hashed : (k : K) → same k s ≡ true → sought hasher ≡ F hasher k
  pub alike : (j k : K) → same j s ≡ true → same k s ≡ eq k j
  pub map_is : IsMap eq (F hasher) v size
  pub view : (record { entries = pairs_of v.entries; degree = 2 ^ v.bits; hasher = hasher }) ≡ m
  pub hash_is : h ≡ sought hasher

-- the same for a key
pub seen_by_key : {K V H : Type 0} {eq : K → K → Bool} {hasher : H} {h size : ℕ} {v : Trie K V} {m : HashedMap K V H} (F : H → K → ℕ) (k : K) → IsEquivalence eq → ((x y : K) → IsTrue (eq x y) → F hasher x ≡ F hasher y)
    → IsMap eq (F hasher) v size → (record { entries = pairs_of v.entries; degree = 2 ^ v.bits; hasher = hasher }) ≡ m → h ≡ F hasher k → IsSeenMap eq F eq k (λ x. F x k) h hasher size v m
seen_by_key {eq = eq} {hasher = hasher} F k law alike map_is view is = record {
  law = law;
  hashed = told_alike eq (F hasher) alike k;
  alike = key_alike law k;
  map_is = map_is;
  view = view;
  hash_is = is;
}

no_pairs : {K V : Type 0} (es : List (Stored K V)) → pairs_of es ≡ [] → es ≡ []
no_pairs [] e = refl
no_pairs (x ∷ xs) e = cc

-- what a look-up in the trie v tells of the map
pub record IsLook {K S V H : Type 0} (F : H → K → ℕ) (same : K → S → Bool) (s : S) (sought : H → ℕ) (h : ℕ) (v : Trie K V) (m : HashedMap K V H) : Type 0 where
  pub once : length v.entries ≤ length (unmatched (matches same s h) v.entries) + 1
  pub tells : option_map (λ e. e.1) (found (matches same s h) v.entries) ≡ find same s m.entries
  pub reaches : reach_within (2 ^ v.bits) h (hashes_in (unmatched (matches same s h) v.entries)) 0 (level_count v.bits) ≡ reach m.degree (sought m.hasher) (hashes_of (F m.hasher) (without same s m.entries))
  pub levels : level_count v.bits ≡ digit_count m.degree
  pub counts : hash_count h (hashes_in v.entries) ≡ hash_count (sought m.hasher) (hashes_of (F m.hasher) m.entries)

module _ {K S V H : Type 0} {eq : K → K → Bool} {F : H → K → ℕ} {same : K → S → Bool} {s : S} {sought : H → ℕ} {h : ℕ} {hasher : H} {size : ℕ} {v : Trie K V} {m : HashedMap K V H} (seen : IsSeenMap eq F same s sought h hasher size v m) where
  -- h is the hash of those keys
  pub told_hash : (k : K) → same k s ≡ true → h ≡ F hasher k
  told_hash k y = seen.hash_is ∙ seen.hashed k y

  pub pairs_found : option_map (λ e. e.1) (found (matches same s h) v.entries) ≡ find same s (pairs_of v.entries)
  pairs_found = found_is same (F hasher) s h told_hash v.entries seen.map_is.hashes

  pub pairs_gone : pairs_of (unmatched (matches same s h) v.entries) ≡ without same s (pairs_of v.entries)
  pairs_gone = without_is same (F hasher) s h told_hash v.entries seen.map_is.hashes

  pub look_of : IsLook F same s sought h v m
  look_of =
      let kept = each_without (λ e. e.0 ≡ F hasher e.1.0) (matches same s h) v.entries seen.map_is.hashes in
      let rest = unmatched (matches same s h) v.entries in
      let look : IsLook F same s sought h v (record { entries = pairs_of v.entries; degree = 2 ^ v.bits; hasher = hasher }) = record {
        once = once_of eq same s seen.alike (F hasher) h told_hash v.entries seen.map_is.hashes seen.map_is.apart;
        tells = pairs_found;
        reaches = rw (← pairs_gone, ← seen.hash_is) (ap (reach_within (2 ^ v.bits) h (hashes_in rest) 0) (level_count_is v.bits) ∙ ap (reach (2 ^ v.bits) h) (hashes_are (F hasher) rest kept));
        levels = level_count_is v.bits;
        counts = rw (← seen.hash_is) (ap (hash_count h) (hashes_are (F hasher) v.entries seen.map_is.hashes));
      } in
      subst (IsLook F same s sought h v) seen.view look

  -- no pair, no entry
  pub none_seen : m.entries ≡ [] → v.entries ≡ []
  none_seen e = no_pairs v.entries (ap (λ x. x.entries) seen.view ∙ e)

  -- the nodes of a path in the trie, in the words of the map
  pub path_made : (n : ℕ) {a b : Steps} → IsMadeWithin (reach_within (2 ^ v.bits) h (hashes_in (unmatched (matches same s h) v.entries)) 0 (level_count v.bits) + n) a b → IsMadeWithin (key_reach same s (sought m.hasher) (F m.hasher) m + n) a b
  path_made n {a} {b} x = subst (λ r. IsMadeWithin (r + n) a b) look_of.reaches x

-- no path is longer than a hash has digits
pub within_digits : {K S V H : Type 0} (same : K → S → Bool) (s : S) (h : ℕ) (hash : K → ℕ) (m : HashedMap K V H) (n : ℕ) {a b : Steps} → IsMadeWithin (key_reach same s h hash m + n) a b → IsMadeWithin (digit_count m.degree + n) a b
within_digits same s h hash m n x = made_more x (omega (arith, reach_most m.degree h (hashes_of hash (without same s m.entries)) 0 (digit_count m.degree)))

-- equal keys have one hash
pub alike_keys : {H S K : Type 0} (b : builder.Ghosts H S) (s : hasher.Ghosts S) (input : K → HashWrites) (eq : K → K → Bool) → ((x y : K) → IsTrue (eq x y) → input x ≡ input y) → (h : H) (x y : K) → IsTrue (eq x y) → key_hash b s input h x ≡ key_hash b s input h y
alike_keys b s input eq respects h x y e = ap (λ w. s.finish (fold s.write (b.build_hasher h) w)) (respects x y e)

-- what is fed for a form is fed for the keys that it is a form of
pub form_hash : {H S K : Type 0} (b : builder.Ghosts H S) (s : hasher.Ghosts S) (feed : K → HashWrites) (input : HashWrites) (h : H) (k : K) → input ≡ feed k → s.finish (fold s.write (b.build_hasher h) input) ≡ key_hash b s feed h k
form_hash b s feed input h k e = ap (λ w. s.finish (fold s.write (b.build_hasher h) w)) e

pub some_from : {X Y : Type 0} (f : X → Y) (o : Option X) → IsSome (option_map f o) → IsSome o
some_from f None s = s
some_from f (Some x) s = s
