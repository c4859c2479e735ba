-- The pairs whose keys another map has, or lacks.
use Rattle.rpds_hash.proofs.Words.{◌≡◌, ℕ, ◌+◌, ◌-◌, ◌^◌, ◌≤◌, Bool, true, false, cond, List, [], ◌∷◌, length, is_some, refl, ap, ◌∙◌}
use Rattle.rpds_hash.proofs.Words.{subst, arith, IsTrue, ◌⊎◌, inl, inr, Stored, Trie}
use Rattle.rpds_hash.proofs.Words.{HashedMap, matches, found, unmatched, pairs_of, find, without, AllApart, AllHashed, IsMap}
use Rattle.std.proofs.Common.{filter, is_none}
use Rattle.rpds_hash_trie.specs.HashSift.{goes, AreCounted}
use Rattle.rpds_hash_trie.proofs.Flat.{each_without}
use Rattle.rpds_hash_trie.proofs.MapGet.{found_is, told_alike}
use Rattle.rpds_hash.proofs.MapRemove.{some_is}
use Rattle.rpds_hash.proofs.UnitedMaps.{map_of}
use Rattle.rpds_hash.specs.Kept.{keeps}

-- as many pairs of a key go of those that pass a test as of all, or fewer
both_passed : {K V : Type 0} (eq : K → K → Bool) (test : K × V → Bool) (j : K) (ps : List (K × V))
    → length (filter test ps) + length (without eq j ps) ≤ length ps + length (without eq j (filter test ps))
both_passed eq test j [] = omega arith
both_passed eq test j (p ∷ ps) = grind (arith, both_passed eq test j ps)

-- each entry is left by one of two tests
both_left : {K V : Type 0} (eq : K → K → Bool) (ys xs : List (Stored K V))
    → length (unmatched (goes eq true ys) xs) + length (unmatched (goes eq false ys) xs) ≡ length xs
both_left eq ys [] = refl
both_left eq ys (x ∷ xs) = grind (arith, both_left eq ys xs)

module _ {K V : Type 0} {eq : K → K → Bool} (both : Bool) (hash : K → ℕ) (alike : (x y : K) → IsTrue (eq x y) → hash x ≡ hash y) (ys : List (Stored K V))
    (all_ys : AllHashed hash ys) where
  pairs_kept : (xs : List (Stored K V)) → AllHashed hash xs → pairs_of (unmatched (goes eq both ys) xs) ≡ filter (keeps eq both (pairs_of ys)) (pairs_of xs)
  pairs_kept [] all = refl
  pairs_kept (x ∷ xs) all =
      let k = x.1.0 in
      let there : is_some (found (matches eq k x.0) ys) ≡ is_some (find eq k (pairs_of ys)) =
      ap (λ h. is_some (found (matches eq k h) ys)) all.0 ∙ some_is (λ (e : Stored K V). e.1) (found (matches eq k (hash k)) ys)
      ∙ ap is_some (found_is eq hash k (hash k) (told_alike eq hash alike k) ys all_ys) in
      grind (arith, there, pairs_kept xs all.1)

-- a map of the pairs that one keeps
pub record IsKept {K V H : Type 0} (eq : K → K → Bool) (F : H → K → ℕ) (both : Bool) (m other : HashedMap K V H) (t : Trie K V) (size : ℕ) : Type 0 where
  pub map_is : IsMap eq (F m.hasher) t size
  pub kept : map_of m.hasher t ≡ record m { entries = filter (keeps eq both other.entries) m.entries }

module _ {K V H : Type 0} {eq : K → K → Bool} (F : H → K → ℕ) (hasher hasher' : H) (alike : (h : H) (x y : K) → IsTrue (eq x y) → F h x ≡ F h y)
    (v w : Trie K V) (n n' : ℕ) (mine : IsMap eq (F hasher) v n) (theirs : IsMap eq (F hasher') w n')
    (hashed : AllHashed (F hasher) w.entries ⊎ AllHashed (F hasher') v.entries) (both : Bool) (t : Trie K V)
    (is : t ≡ record v { entries = unmatched (goes eq both w.entries) v.entries }) where
  kept_pairs : pairs_of (unmatched (goes eq both w.entries) v.entries) ≡ filter (keeps eq both (pairs_of w.entries)) (pairs_of v.entries)
  kept_pairs = go hashed
    where
      go : AllHashed (F hasher) w.entries ⊎ AllHashed (F hasher') v.entries
          → pairs_of (unmatched (goes eq both w.entries) v.entries) ≡ filter (keeps eq both (pairs_of w.entries)) (pairs_of v.entries)
      go (inl all) = pairs_kept both (F hasher) (alike hasher) w.entries all v.entries mine.hashes
      go (inr all) = pairs_kept both (F hasher') (alike hasher') w.entries theirs.hashes v.entries all

  apart : AllApart eq (pairs_of (unmatched (goes eq both w.entries) v.entries))
  apart k =
      let one : length (pairs_of v.entries) ≤ length (without eq k (pairs_of v.entries)) + 1 = mine.apart k in
      rw kept_pairs (omega (arith, one, both_passed eq (keeps eq both (pairs_of w.entries)) k (pairs_of v.entries)))

  module _ (common size : ℕ) (counted : AreCounted eq v.entries w.entries 0 common) (sized : size ≡ cond both common (n - common)) where
    sizes : size ≡ length (unmatched (goes eq both w.entries) v.entries)
    sizes = go both sized
      where
        go : (both : Bool) → size ≡ cond both common (n - common) → size ≡ length (unmatched (goes eq both w.entries) v.entries)
        go true e = omega (arith, e, counted, both_left eq w.entries v.entries)
        go false e = omega (arith, e, counted, mine.counted, both_left eq w.entries v.entries)

    pub kept_map : (m other : HashedMap K V H) → map_of hasher v ≡ m → map_of hasher' w ≡ other → IsKept eq F both m other t size
    kept_map m other seen seen' =
        let kept : IsKept eq F both (map_of hasher v) (map_of hasher' w) t size = rw is (record {
          map_is = record {
            counted = sizes;
            hashes = each_without (λ e. e.0 ≡ F hasher e.1.0) (goes eq both w.entries) v.entries mine.hashes;
            apart = apart;
          };
          kept = λ i. record { entries = kept_pairs i; degree = 2 ^ v.bits; hasher = hasher };
        }) in
        subst (λ l. IsKept eq F both l other t size) seen (subst (λ l. IsKept eq F both (map_of hasher v) l t size) seen' kept)

-- the pairs that are kept, said in other words
pub kept_both : {K V : Type 0} (eq : K → K → Bool) (others es : List (K × V)) → filter (keeps eq true others) es ≡ filter (λ p. is_some (find eq p.0 others)) es
kept_both eq others [] = refl
kept_both eq others (e ∷ es) = grind (arith, kept_both eq others es)

pub kept_mine : {K V : Type 0} (eq : K → K → Bool) (others es : List (K × V)) → filter (keeps eq false others) es ≡ filter (λ p. is_none (find eq p.0 others)) es
kept_mine eq others [] = refl
kept_mine eq others (e ∷ es) = grind (arith, kept_mine eq others es)

-- a map of the pairs that passed a test
pub passed_map : {K V H : Type 0} (test : K × V → Bool) (s l n : HashedMap K V H) → l ≡ s → n ≡ record l { entries = n.entries } → n.entries ≡ filter test l.entries
    → n ≡ record s { entries = filter test s.entries }
passed_map {K} {V} {H} test s l n is same passed =
    same ∙ ap (λ (es : List (K × V)). record l { entries = es }) passed ∙ ap (λ (t : HashedMap K V H). record t { entries = filter test t.entries }) is
