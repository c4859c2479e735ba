-- A map after an insertion.
use Rattle.rpds_hash_trie.proofs.Words.{◌≡◌, ℕ, suc, ◌+◌, ◌^◌, ◌<◌, ◌≤◌, Bool, true, false, cond, List, [], ◌∷◌, Some, None, length, refl, sym, ap, ◌∙◌, subst, arith, Option, is_none, option_map, false≢true, IsEquivalence, IsPermutation, IsPermutation-map, length_permutation, length-map, Stored, Trie, found, matches, unmatched, HashedMap, pairs_of, find, without, AllApart, AllHashed, IsMap, IsPut}
use Rattle.std.specs.List.{sum_by}
use Rattle.std.proofs.lemmas.List.Sorted.{sum_by-IsPermutation}
use Rattle.std.proofs.lemmas.List.Sums.{sum_by-cons}
use Rattle.rpds_hash_trie.specs.HashChanges.{IsGrown}
use Rattle.rpds_hash_trie.proofs.Flat.{each_along, each_without}
use Rattle.rpds_hash_trie.proofs.MapGet.{IsSeenMap, told_hash, pairs_found, pairs_gone}

module _ {K V : Type 0} where
  -- how many pairs are kept, as a sum
  abbrev weight : (K → K → Bool) → K → Stored K V → ℕ
  weight eq k e = cond (eq e.1.0 k) 0 1

  kept_sum : (eq : K → K → Bool) (k : K) (xs : List (Stored K V)) → length (without eq k (pairs_of xs)) ≡ sum_by (weight eq k) xs
  kept_sum eq k [] = refl
  kept_sum eq k (x ∷ xs) = grind (arith, kept_sum eq k xs) ∙ sym (sum_by-cons (weight eq k) x xs)

  pub apart_along : (eq : K → K → Bool) (xs ys : List (Stored K V)) → IsPermutation xs ys → AllApart eq (pairs_of xs) → AllApart eq (pairs_of ys)
  apart_along eq xs ys q a k =
      let one : length (pairs_of xs) ≤ length (without eq k (pairs_of xs)) + 1 = a k in
      let l = length_permutation xs ys q in
      let lx : length (pairs_of xs) ≡ length xs = length-map xs (λ e. e.1) in
      let ly : length (pairs_of ys) ≡ length ys = length-map ys (λ e. e.1) in
      let s = kept_sum eq k xs ∙ sym (sum_by-IsPermutation (weight eq k) xs ys q) ∙ sym (kept_sum eq k ys) in
      omega arith

-- as many pairs go with a second key as went before, or fewer
pub both_kept : {K S V : Type 0} (eq : K → K → Bool) (same : K → S → Bool) (s : S) (j : K) (ps : List (K × V))
    → length (without same s ps) + length (without eq j ps) ≤ length ps + length (without eq j (without same s ps))
both_kept eq same s j [] = omega arith
both_kept eq same s j (p ∷ ps) = grind (arith, both_kept eq same s j ps)

module _ {K V : Type 0} (eq : K → K → Bool) (law : IsEquivalence eq) where
  -- keys that are unlike k are unlike what is equal to it
  kept_same : (k j : K) → eq k j ≡ true → (ps : List (K × V)) → without eq j (without eq k ps) ≡ without eq k ps
  kept_same k j e [] = refl
  kept_same k j e (p ∷ ps) = grind (arith, kept_same k j e ps, law.symm p.0 j, law.congr k j p.0 e, law.symm k p.0)

  pub apart_put : (k : K) (x : V) (ps : List (K × V)) → AllApart eq ps → AllApart eq ((k, x) ∷ without eq k ps)
  apart_put k x ps a j = grind (arith, kept_same k j, both_kept eq eq k j ps, a j)

-- how many pairs there are after a pair was put in
module _ {K S V : Type 0} (eq : K → S → Bool) where
  pub none_gone : (k : S) (ps : List (K × V)) → find eq k ps ≡ None → without eq k ps ≡ ps
  none_gone k [] is = refl
  none_gone k (p ∷ ps) is = grind (arith, none_gone k ps)

  pub found_gone : (k : S) (ps : List (K × V)) → find eq k (without eq k ps) ≡ None
  found_gone k [] = refl
  found_gone k (p ∷ ps) = grind (arith, found_gone k ps)

  pub less_key : (k : S) (ps : List (K × V)) → length (without eq k ps) ≤ length ps
  less_key k [] = omega arith
  less_key k (p ∷ ps) = grind (arith, less_key k ps)

  some_less : (k : S) (ps : List (K × V)) → (find eq k ps ≡ None → ⊥) → length (without eq k ps) < length ps
  some_less k [] there = absurd (there refl)
  some_less k (p ∷ ps) there = grind (arith, some_less k ps, less_key k ps)

-- a look-up in place, that tells whether it found none
none_is : {X : Type 0} (o : Option X) → is_none o ≡ true → o ≡ None
none_is None e = refl
none_is (Some x) e = absurd (false≢true e)

none_not : {X Y : Type 0} (f : X → Y) (o : Option X) → is_none o ≡ false → option_map f o ≡ None → ⊥
none_not f None e n = false≢true (sym e)
none_not f (Some x) e n = let g : Some (f x) ≡ None = n in cc

-- the map, with the entries of a trie in which one was put
module _ {K V H : Type 0} {eq : K → K → Bool} {F : H → K → ℕ} {k : K} (x : V) {h : ℕ} {hasher : H} {size : ℕ} {v : Trie K V} {m : HashedMap K V H} (s : IsSeenMap eq F eq k (λ x. F x k) h hasher size v m)
    (t : Trie K V) (bits : t.bits ≡ v.bits) (perm : IsPermutation ((h, (k, x)) ∷ unmatched (matches eq k h) v.entries) t.entries) where
  abbrev ps : List (K × V)
  ps = pairs_of v.entries

  pairs : IsPermutation ((k, x) ∷ without eq k ps) (pairs_of t.entries)
  pairs = subst (λ qs. IsPermutation ((k, x) ∷ qs) (pairs_of t.entries)) (pairs_gone s) (IsPermutation-map (λ e. e.1) ((h, (k, x)) ∷ unmatched (matches eq k h) v.entries) t.entries perm)

  hashes : AllHashed (F hasher) t.entries
  hashes = each_along (λ e. e.0 ≡ F hasher e.1.0) ((h, (k, x)) ∷ unmatched (matches eq k h) v.entries) t.entries perm (told_hash s k (s.law.refl k), each_without (λ e. e.0 ≡ F hasher e.1.0) (matches eq k h) v.entries s.map_is.hashes)

  apart : AllApart eq (pairs_of t.entries)
  apart = apart_along eq ((h, (k, x)) ∷ unmatched (matches eq k h) v.entries) t.entries perm (subst (λ qs. AllApart eq ((k, x) ∷ qs)) (sym (pairs_gone s)) (apart_put eq s.law k x ps s.map_is.apart))

  long : length t.entries ≡ suc (length (without eq k ps))
  long = sym (length-map t.entries (λ e. e.1)) ∙ length_permutation ((k, x) ∷ without eq k ps) (pairs_of t.entries) pairs

  all : size ≡ length ps
  all = s.map_is.counted ∙ sym (length-map v.entries (λ e. e.1))

  map_of : (many : ℕ) → many ≡ length t.entries → IsMap eq (F hasher) t many
  map_of many is = record { counted = is; hashes = hashes; apart = apart }

  fresh_size : find eq k ps ≡ None → size + 1 ≡ length t.entries
  fresh_size none = omega (arith, long, all, ap length (none_gone eq k ps none))

  again_size : (find eq k ps ≡ None → ⊥) → size ≡ length t.entries
  again_size there =
      let one : length ps ≤ length (without eq k ps) + 1 = s.map_is.apart k in
      omega (arith, long, all, some_less eq k ps there, one)

  grown : (many : ℕ) → many ≡ length t.entries → IsGrown eq (F m.hasher) (k, x) m t many
  grown many is = subst (λ (n : HashedMap K V H). IsGrown eq (F n.hasher) (k, x) n t many) s.view (record { map_is = map_of many is; pairs = pairs; degree = ap (λ n. 2 ^ n) bits })

  -- the same, where the change was made in place
  pub put_done : IsPut eq (k, x) m (record { entries = pairs_of t.entries; degree = 2 ^ t.bits; hasher = hasher })
  put_done = subst (λ (n : HashedMap K V H). IsPut eq (k, x) n (record { entries = pairs_of t.entries; degree = 2 ^ t.bits; hasher = hasher })) s.view
      (record { pairs = pairs; degree = ap (λ n. 2 ^ n) bits; hasher = refl })

  module _ (added : Bool) (told : added ≡ is_none (found (matches eq k h) v.entries)) where
    fresh : added ≡ true → size + 1 ≡ length t.entries
    fresh y = fresh_size (sym (pairs_found s) ∙ ap (option_map (λ (e : Stored K V). e.1)) (none_is (found (matches eq k h) v.entries) (sym told ∙ y)))

    again : added ≡ false → size ≡ length t.entries
    again y = again_size (λ none. none_not (λ (e : Stored K V). e.1) (found (matches eq k h) v.entries) (sym told ∙ y) (pairs_found s ∙ none))

    pub added_map : added ≡ true → IsMap eq (F hasher) t (size + 1)
    added_map y = map_of (size + 1) (fresh y)

    pub again_map : added ≡ false → IsMap eq (F hasher) t size
    again_map y = map_of size (again y)

    pub grown_fresh : added ≡ true → IsGrown eq (F m.hasher) (k, x) m t (size + 1)
    grown_fresh y = grown (size + 1) (fresh y)

    pub grown_again : added ≡ false → IsGrown eq (F m.hasher) (k, x) m t size
    grown_again y = grown size (again y)
