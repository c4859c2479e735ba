-- A map of which a value was lent.
use Rattle.rpds_hash.proofs.Words.{◌≡◌, ℕ, ◌^◌, ◌+◌, ◌≤◌, Bool, true, ◌⊎◌, inl, inr, List, [], ◌∷◌, length, refl, sym, ap, ◌∙◌, arith, Some, None, length-map, Option, option_map, Stored, Trie, matches, HashedMap, pairs_of, without, AllHashed, IsMap, with_value, node_with}
use Rattle.std.specs.Map.{set_value}
use Rattle.rpds_hash.specs.HashMapLends.{map_with}
use Rattle.rpds_hash_trie.proofs.MapGet.{IsSeenMap, told_hash, test_is}
use Rattle.rpds_hash_trie.proofs.NodeValueMut.{each_with, length_with}

module _ {S K V : Type 0} (same : K → S → Bool) (hash : K → ℕ) (s : S) (h : ℕ) (told : (k : K) → same k s ≡ true → h ≡ hash k) (w : V) where
  abbrev t : Stored K V → Bool
  t = matches same s h

  pub pairs_with : (es : List (Stored K V)) → AllHashed hash es → pairs_of (with_value t w es) ≡ set_value (λ k. same k s) (pairs_of es) w
  pairs_with [] a = refl
  pairs_with (e ∷ es) a = rw (test_is same hash s h told e a.0) (grind (arith, pairs_with es a.1))

module _ {K V : Type 0} (t : Stored K V → Bool) (w : V) where
  kept_with : (eq : K → K → Bool) (j : K) (es : List (Stored K V)) → length (without eq j (pairs_of (with_value t w es))) ≡ length (without eq j (pairs_of es))
  kept_with eq j [] = refl
  kept_with eq j (e ∷ es) = grind (arith, kept_with eq j es)

  long : (es : List (Stored K V)) → length (pairs_of (with_value t w es)) ≡ length (pairs_of es)
  long es = length-map (with_value t w es) (λ e. e.1) ∙ length_with t w es ∙ sym (length-map es (λ e. e.1))

  map_again : (eq : K → K → Bool) (hash : K → ℕ) (size : ℕ) (v : Trie K V) → IsMap eq hash v size → IsMap eq hash (node_with t w v) size
  map_again eq hash size v m = record {
    counted = m.counted ∙ sym (length_with t w v.entries);
    hashes = each_with t w (λ e. e.0 ≡ hash e.1.0) (λ e q. q) v.entries m.hashes;
    apart = (λ j.
        let one : length (pairs_of v.entries) ≤ length (without eq j (pairs_of v.entries)) + 1 = m.apart j in
        omega (arith, one, long v.entries, kept_with eq j v.entries));
  }

  -- whatever the value
  pub map_sound : (eq : K → K → Bool) (hash : K → ℕ) (size : ℕ) (v d : Trie K V) → (d ≡ node_with t w v) ⊎ (d ≡ v) → IsMap eq hash v size → IsMap eq hash d size
  map_sound eq hash size v d (inl e) m = rw e (map_again eq hash size v m)
  map_sound eq hash size v d (inr e) m = rw e m

-- the map, once the reference into its trie has ended
module _ {S K V H : Type 0} {eq : K → K → Bool} {F : H → K → ℕ} {same : K → S → Bool} {form : S} {G : H → ℕ} {h : ℕ} {hasher : H} {size : ℕ} {v : Trie K V} {m : HashedMap K V H}
    (s : IsSeenMap eq F same form G h hasher size v m) where
  pub map_written : (w : V) (d : Trie K V) → d ≡ node_with (matches same form h) w v → (record { entries = pairs_of d.entries; degree = 2 ^ d.bits; hasher = hasher }) ≡ map_with same form m w
  map_written w d e =
      let pairs : pairs_of (with_value (matches same form h) w v.entries) ≡ set_value (λ k. same k form) (pairs_of v.entries) w = pairs_with same (F hasher) form h (told_hash s) w v.entries s.map_is.hashes in
      rw (e, pairs, ← s.view) refl

  -- where nothing was written
  pub map_kept : (d : Trie K V) → d ≡ v → (record { entries = pairs_of d.entries; degree = 2 ^ d.bits; hasher = hasher }) ≡ m
  map_kept d e = rw e s.view

pub value_told : {K V : Type 0} (o : Option (Stored K V)) → option_map (λ p. p.1) (option_map (λ e. e.1) o) ≡ option_map (λ e. e.1.1) o
value_told None = refl
value_told (Some e) = refl

-- a map that shows no pair has the size 0
pub empty_size : {K V H : Type 0} (eq : K → K → Bool) (hash : K → ℕ) (hasher : H) (size : ℕ) (v : Trie K V) (m : HashedMap K V H)
    → IsMap eq hash v size → (record { entries = pairs_of v.entries; degree = 2 ^ v.bits; hasher = hasher }) ≡ m → m.entries ≡ [] → size ≡ 0
empty_size {K} {V} {H} eq hash hasher size v m map_is view none =
    let shown : pairs_of v.entries ≡ [] = ap (λ (n : HashedMap K V H). n.entries) view ∙ none in
    map_is.counted ∙ sym (length-map v.entries (λ e. e.1)) ∙ ap length shown
