-- Two maps in one, whose keys have the same hashes.
use Rattle.rpds_hash.proofs.Words.{nat_tests, ◌≡◌, ℕ, ◌+◌, ◌-◌, ◌^◌, ◌≤◌, Bool, true, List, [], ◌∷◌, Some, None, length, is_some, refl, sym, ap, ◌∙◌}
use Rattle.rpds_hash.proofs.Words.{subst, arith, Option, IsTrue, option_map, ◌⊎◌, inl, inr, false≢true, IsEquivalence, length-map, eqb_tells, Stored, Trie}
use Rattle.rpds_hash.proofs.Words.{HashedMap, matches, found, unmatched, pairs_of, find, without, AllApart, AllHashed, IsMap}
use Rattle.std.specs.Option.{option_or}
use Rattle.rpds_hash_trie.specs.HashUnion.{AllOnce, FindsEither, IsUnited}
use Rattle.rpds_hash_trie.proofs.Flat.{IsToldEqual}
use Rattle.rpds_hash_trie.proofs.MapGet.{found_is, key_alike, once_of, told_alike, without_is}
use Rattle.rpds_hash_trie.proofs.United.{each_found, either_some}

module _ {K V : Type 0} {eq : K → K → Bool} (law : IsEquivalence eq) (hash : K → ℕ) (alike : (x y : K) → IsTrue (eq x y) → hash x ≡ hash y) where
  -- a key and a hash by which an entry is found
  hash_is : (k : K) (h : ℕ) (xs : List (Stored K V)) → AllHashed hash xs → is_some (found (matches eq k h) xs) ≡ true → h ≡ hash k
  hash_is k h [] all some = absurd (false≢true some)
  hash_is k h (x ∷ xs) all some = grind (arith, nat_tests, hash_is k h xs all.1, alike x.1.0 k)

  -- a hash that isn't that of the key
  all_kept : (k : K) (h : ℕ) → (h ≡ hash k → ⊥) → (xs : List (Stored K V)) → AllHashed hash xs → length xs ≤ length (unmatched (matches eq k h) xs)
  all_kept k h other [] all = omega arith
  all_kept k h other (x ∷ xs) all = grind (arith, nat_tests, all_kept k h other xs all.1, alike x.1.0 k)

  pub all_once : (xs : List (Stored K V)) → AllHashed hash xs → AllApart eq (pairs_of xs) → AllOnce eq xs
  all_once xs all apart k h = go (eqb_tells h (hash k))
    where
      go : IsToldEqual h (hash k) → length xs ≤ length (unmatched (matches eq k h) xs) + 1
      go (inl s) = subst (λ n. length xs ≤ length (unmatched (matches eq k n) xs) + 1) (sym s.1) (once_of eq eq k (key_alike law k) hash (hash k) (told_alike eq hash alike k) xs all apart)
      go (inr s) = omega (arith, all_kept k h s.1 xs all)

  module _ (xs ys zs : List (Stored K V)) (all_xs : AllHashed hash xs) (all_ys : AllHashed hash ys) (finds : FindsEither eq xs ys zs) where
    all_hashed : AllHashed hash zs
    all_hashed = each_found law (λ e. e.0 ≡ hash e.1.0) zs (λ e some. go e (either_some law (found (matches eq e.1.0 e.0) xs)
        (found (matches eq e.1.0 e.0) ys) (ap is_some (sym (finds e.1.0 e.0)) ∙ some)))
      where
        go : (e : Stored K V) → (is_some (found (matches eq e.1.0 e.0) xs) ≡ true) ⊎ (is_some (found (matches eq e.1.0 e.0) ys) ≡ true) → e.0 ≡ hash e.1.0
        go e (inl some) = hash_is e.1.0 e.0 xs all_xs some
        go e (inr some) = hash_is e.1.0 e.0 ys all_ys some

    pairs_found : (k : K) → find eq k (pairs_of zs) ≡ option_or (find eq k (pairs_of xs)) (find eq k (pairs_of ys))
    pairs_found k =
        sym (found_is eq hash k (hash k) (told_alike eq hash alike k) zs all_hashed) ∙ ap (option_map (λ e. e.1)) (finds k (hash k))
        ∙ split (found (matches eq k (hash k)) xs) (found (matches eq k (hash k)) ys)
        ∙ (λ i. option_or (found_is eq hash k (hash k) (told_alike eq hash alike k) xs all_xs i) (found_is eq hash k (hash k) (told_alike eq hash alike k) ys all_ys i))
      where
        split : (a b : Option (Stored K V)) → option_map (λ (e : Stored K V). e.1) (option_or a b) ≡ option_or (option_map (λ e. e.1) a)
            (option_map (λ e. e.1) b)
        split None b = refl
        split (Some x) b = refl

    all_apart : AllOnce eq zs → AllApart eq (pairs_of zs)
    all_apart once k =
        let one : length zs ≤ length (unmatched (matches eq k (hash k)) zs) + 1 = once k (hash k) in
        let kept : length (unmatched (matches eq k (hash k)) zs) ≡ length (without eq k (pairs_of zs)) = sym
        (length-map (unmatched (matches eq k (hash k)) zs) (λ e. e.1)) ∙ ap length (without_is eq hash k (hash k) (told_alike eq hash alike k) zs all_hashed) in
        let all : length (pairs_of zs) ≡ length zs = length-map zs (λ e. e.1) in
        omega arith

-- a map of the pairs of two maps
pub record IsMerged {K V H : Type 0} (eq : K → K → Bool) (F : H → K → ℕ) (m other : HashedMap K V H) (t : Trie K V) (size : ℕ) : Type 0 where
  pub map_is : IsMap eq (F m.hasher) t size
  pub degree : 2 ^ t.bits ≡ m.degree
  pub finds : (k : K) → find eq k (pairs_of t.entries) ≡ option_or (find eq k m.entries) (find eq k other.entries)

abbrev pub map_of : {K V H : Type 0} → H → Trie K V → HashedMap K V H
map_of hasher v = record { entries = pairs_of v.entries; degree = 2 ^ v.bits; hasher = hasher }

module _ {K V H : Type 0} {eq : K → K → Bool} (law : IsEquivalence eq) (F : H → K → ℕ) (hasher hasher' : H)
    (alike : (x y : K) → IsTrue (eq x y) → F hasher x ≡ F hasher y) (v w : Trie K V) (n n' : ℕ) (mine : IsMap eq (F hasher) v n)
    (theirs : IsMap eq (F hasher') w n') (hashed : AllHashed (F hasher) w.entries) where
  pub once_mine : AllOnce eq v.entries
  once_mine = all_once law (F hasher) alike v.entries mine.hashes mine.apart

  pub once_theirs : AllOnce eq w.entries
  once_theirs = all_once law (F hasher) alike w.entries hashed theirs.apart

  module _ (t : Trie K V) (common size : ℕ) (united : IsUnited eq v w.entries t 0 common) where
    pub common_most : common ≤ n'
    common_most = let most = united.most in omega (arith, most, theirs.counted)

    pub merged : (m other : HashedMap K V H) → map_of hasher v ≡ m → map_of hasher' w ≡ other → size ≡ n + (n' - common) → IsMerged eq F m other t size
    merged m other seen seen' sized =
        let sum = united.sum in
        let most = united.most in
        let all = all_hashed law (F hasher) alike v.entries w.entries t.entries mine.hashes hashed united.found_in in
        let is : IsMerged eq F (map_of hasher v) (map_of hasher' w) t size = record {
          map_is = record {
            counted = omega (arith, sum, most, sized, mine.counted, theirs.counted);
            hashes = all;
            apart = all_apart law (F hasher) alike
                v.entries w.entries t.entries mine.hashes hashed united.found_in united.once;
          };
          degree = ap (λ b. 2 ^ b) united.bits;
          finds = pairs_found law (F hasher) alike v.entries w.entries t.entries mine.hashes hashed united.found_in;
        } in
        subst (λ l. IsMerged eq F l other t size) seen (subst (λ l. IsMerged eq F (map_of hasher v) l t size) seen' is)

-- all but its pairs is this map's
pub merged_same : {K V H : Type 0} (m n : HashedMap K V H) (t : Trie K V) → 2 ^ t.bits ≡ m.degree → n ≡ map_of m.hasher t → n ≡ record m { entries = n.entries }
merged_same {K} {V} {H} m n t degree is =
    let degrees : n.degree ≡ m.degree = ap (λ (l : HashedMap K V H). l.degree) is ∙ degree in
    let hashers : n.hasher ≡ m.hasher = ap (λ (l : HashedMap K V H). l.hasher) is in
    λ i. record { entries = n.entries; degree = degrees i; hasher = hashers i }
