-- A hashed map of the same keys with other values.
use Rattle.rpds_hash.proofs.Words.{◌≡◌, ℕ, suc, ◌^◌, Bool, true, false, cond, not, List, [], ◌∷◌, Result, length, refl, ap}
use Rattle.rpds_hash.proofs.Words.{◌∙◌, sym, subst, Stored, Trie, HashedMap, pairs_of, AllHashed, IsMap}
use Rattle.std.proofs.Common.{filter}
use Rattle.std.proofs.lemmas.Slice.Zip.{AllZip-long}
use Rattle.std.specs.Borrow.{Bor}
use Rattle.std.specs.List.{AllZip}
use Rattle.rpds_core.specs.Calls.{HasValueOf, HaveValuesOf}
use Rattle.rpds_hash_trie.specs.HashValues.{HasStoredValueOf, HasValuesOf}
use Rattle.rpds_hash.proofs.UnitedMaps.{map_of}
use denote.Param.Members.{Shared}

module _ {F K V W E : Type 0} (g : Shared F (Bor V × Unit {0}) (Result W E)) (f : F) where
  pairs_mapped : (xs : List (Stored K V)) (ys : List (Stored K W)) → AllZip (HasStoredValueOf g f) xs ys → HaveValuesOf g f (pairs_of xs) (pairs_of ys)
  pairs_mapped [] [] z = tt
  pairs_mapped [] (y ∷ ys) z = absurd z
  pairs_mapped (x ∷ xs) [] z = absurd z
  pairs_mapped (x ∷ xs) (y ∷ ys) z = (z.0.pair, pairs_mapped xs ys z.1)

  still_hashed : (hash : K → ℕ) (xs : List (Stored K V)) (ys : List (Stored K W)) → AllZip (HasStoredValueOf g f) xs ys → AllHashed hash xs → AllHashed hash ys
  still_hashed hash [] [] z all = tt
  still_hashed hash [] (y ∷ ys) z all = absurd z
  still_hashed hash (x ∷ xs) [] z all = absurd z
  still_hashed hash (x ∷ xs) (y ∷ ys) z all = (z.0.hash ∙ all.0 ∙ ap hash (sym z.0.pair.key), still_hashed hash xs ys z.1 all.1)

  -- as many keys pass a test
  as_many_pass : (test : K → Bool) (ps : List (K × V)) (qs : List (K × W)) → HaveValuesOf g f ps qs
      → length (filter (λ q. test q.0) qs) ≡ length (filter (λ p. test p.0) ps)
  as_many_pass test [] [] z = refl
  as_many_pass test [] (q ∷ qs) z = absurd z
  as_many_pass test (p ∷ ps) [] z = absurd z
  as_many_pass test (p ∷ ps) (q ∷ qs) z = rw (ap test z.0.key) (go (as_many_pass test ps qs z.1) (test p.0))
    where
      go : length (filter (λ q. test q.0) qs) ≡ length (filter (λ p. test p.0) ps) → (b : Bool)
          → length (cond b (q ∷ filter (λ q. test q.0) qs) (filter (λ q. test q.0) qs)) ≡ length (cond b (p ∷ filter (λ p. test p.0) ps) (filter (λ p. test p.0) ps))
      go rest true = ap (λ n. suc n) rest
      go rest false = rest

  module _ {eq : K → K → Bool} {hash : K → ℕ} (v : Trie K V) (w : Trie K W) (made : HasValuesOf g f v w) where
    pub still_map : (size : ℕ) → IsMap eq hash v size → IsMap eq hash w size
    still_map size m =
        let zip = pairs_mapped v.entries w.entries made.entries in
        record {
          counted = m.counted ∙ sym (AllZip-long (HasStoredValueOf g f) v.entries w.entries made.entries);
          hashes = still_hashed hash v.entries w.entries made.entries m.hashes;
          apart = (λ k. rw (
            AllZip-long (HasValueOf g f) (pairs_of v.entries) (pairs_of w.entries) zip,
            as_many_pass (λ j. not (eq j k)) (pairs_of v.entries) (pairs_of w.entries) zip,
          ) (m.apart k));
        }

  -- the map of such a trie
  pub record IsMapped {H : Type 0} (m : HashedMap K V H) (r : HashedMap K W H) : Type 0 where
    pub pairs : HaveValuesOf g f m.entries r.entries
    pub degree : r.degree ≡ m.degree
    pub hasher : r.hasher ≡ m.hasher

  pub is_mapped : {H : Type 0} (hasher : H) (v : Trie K V) (w : Trie K W) (m : HashedMap K V H) (r : HashedMap K W H) → HasValuesOf g f v w → map_of hasher v ≡ m
      → r ≡ record { entries = pairs_of w.entries; degree = 2 ^ w.bits; hasher = m.hasher } → IsMapped m r
  is_mapped {H} hasher v w m r made seen is = record {
    pairs = subst (λ es. HaveValuesOf g f es r.entries) (ap (λ (t : HashedMap K V H). t.entries) seen)
        (subst (λ es. HaveValuesOf g f (pairs_of v.entries) es) (sym (ap (λ (t : HashedMap K W H). t.entries) is)) (pairs_mapped v.entries w.entries made.entries));
    degree = ap (λ (t : HashedMap K W H). t.degree) is ∙ ap (λ b. 2 ^ b) made.same_bits ∙ ap (λ (t : HashedMap K V H). t.degree) seen;
    hasher = ap (λ (t : HashedMap K W H). t.hasher) is;
  }
