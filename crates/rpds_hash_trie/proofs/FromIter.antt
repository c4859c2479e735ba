-- What each key has once pairs were put in.
use Rattle.rpds_hash_trie.proofs.Words.{◌≡◌, zero, suc, ◌+◌, ◌≤◌, Bool, true, false, cond, ◌⊎◌, inl, inr, List, [], ◌∷◌, ◌++◌, Some, None, length, refl, sym, ap, ◌∙◌, subst, arith, Option, IsEquivalence, AllByRecursion, IsPermutation, keys_of, reverse-append, All-permutation, length_permutation, AreCollected, IsPut, HashedMap, find, without}
use Rattle.std.specs.List.{All, IsDistinct}
use Rattle.std.proofs.lemmas.List.Sorted.{IsPermutation-sym}
use Rattle.rpds_hash_trie.proofs.MapInsert.{less_key}
use Rattle.rpds_hash_trie.proofs.MapGet.{tells}

both : {X : Type 0} {b : Bool} → b ≡ true → b ≡ false → X
both y n = let no' : true ≡ false = sym y ∙ n in cc

module _ {K V : Type 0} (eq : K → K → Bool) (law : IsEquivalence eq) (k : K) where
  abbrev Misses : K × V → Type 0
  Misses p = eq p.0 k ≡ false

  -- a pair of the key is the one that is found among the pairs
  abbrev Finds : List (K × V) → K × V → Type 0
  Finds ps p = eq p.0 k ≡ true → find eq k ps ≡ Some p

  none_of : (ps : List (K × V)) → All Misses ps → find eq k ps ≡ None
  none_of [] a = refl
  none_of (p ∷ ps) a = let n : eq p.0 k ≡ false = a 0 p (omega arith) in rw n (none_of ps (λ i z lt. a (suc i) z (omega arith)))

  unlike : (p : K × V) (ps : List (K × V)) → eq p.0 k ≡ true → AllByRecursion (λ j. eq p.0 j ≡ false) (keys_of ps) → All Misses ps
  unlike p [] y a i z lt = absurd (omega arith)
  unlike p (q ∷ ps) y a zero z lt = law.symm q.0 k ∙ sym (law.congr p.0 k q.0 y) ∙ a.0
  unlike p (q ∷ ps) y a (suc i) z lt = unlike p ps y a.1 i z (omega arith)

  finds : (ps : List (K × V)) → IsDistinct eq (keys_of ps) → All (Finds ps) ps
  unfolding IsDistinct
  finds [] d i z lt y = absurd (omega arith)
  finds (p ∷ ps) d zero z lt y = rw y refl
  finds (p ∷ ps) d (suc i) z lt y = go (tells (eq p.0 k)) y (finds ps d.1 i z (omega arith) y) (λ t. unlike p ps t d.0 i z (omega arith))
    where
      go : {q : K × V} → (eq p.0 k ≡ true) ⊎ (eq p.0 k ≡ false) → eq q.0 k ≡ true → find eq k ps ≡ Some q → (eq p.0 k ≡ true → eq q.0 k ≡ false) → cond (eq p.0 k) (Some p) (find eq k ps) ≡ Some q
      go (inl t) here is miss = both here (miss t)
      go (inr n) here is miss = rw n is

  missing : (ps : List (K × V)) → find eq k ps ≡ None → All Misses ps
  missing [] is i z lt = absurd (omega arith)
  missing (p ∷ ps) is i z lt = go (tells (eq p.0 k)) (missing ps) is i z lt
    where
      go : (eq p.0 k ≡ true) ⊎ (eq p.0 k ≡ false) → (find eq k ps ≡ None → All Misses ps) → cond (eq p.0 k) (Some p) (find eq k ps) ≡ None → All Misses (p ∷ ps)
      go (inl y) ih is i z lt = let no' : Some p ≡ None = subst (λ b. cond b (Some p) (find eq k ps) ≡ None) y is in cc
      go (inr n) ih is zero z lt = n
      go (inr n) ih is (suc i) z lt = ih (subst (λ b. cond b (Some p) (find eq k ps) ≡ None) n is) i z (omega arith)

  found_too : (qs ps : List (K × V)) (q : K × V) → All (Finds qs) ps → find eq k ps ≡ Some q → find eq k qs ≡ Some q
  found_too qs [] q a is = cc
  found_too qs (p ∷ ps) q a is = grind (arith, a 0 p (omega arith), found_too qs ps q (λ i z lt. a (suc i) z (omega arith)))

  -- the order of pairs doesn't matter
  pub find_along : (ps qs : List (K × V)) → IsPermutation ps qs → IsDistinct eq (keys_of qs) → find eq k qs ≡ find eq k ps
  find_along ps qs m d = go (find eq k ps) refl
    where
      go : (o : Option (K × V)) → find eq k ps ≡ o → find eq k qs ≡ o
      go None is = none_of qs (All-permutation Misses ps qs m (missing ps is))
      go (Some q) is = found_too qs ps q (All-permutation (Finds qs) qs ps (IsPermutation-sym ps qs m) (finds qs d)) is

  pub find_without_other : (j : K) (es : List (K × V)) → eq j k ≡ false → find eq k (without eq j es) ≡ find eq k es
  find_without_other j [] n = refl
  find_without_other j (e ∷ es) n = grind (arith, find_without_other j es n, law.congr e.0 j k)

  pub find_put : (p : K × V) (es : List (K × V)) → find eq k (p ∷ without eq p.0 es) ≡ cond (eq p.0 k) (Some p) (find eq k es)
  find_put p es = grind (arith, find_without_other p.0 es)

module _ {K V : Type 0} (eq : K → K → Bool) (law : IsEquivalence eq) where
  -- one pair more
  pub collected_last : (ps : List (K × V)) (p : K × V) (old new : List (K × V)) → AreCollected eq ps old → IsPermutation (p ∷ without eq p.0 old) new → IsDistinct eq (keys_of new) → AreCollected eq (ps ++ p ∷ []) new
  collected_last ps p old new c m d k =
      find_along eq law k (p ∷ without eq p.0 old) new m d ∙ find_put eq law k p old ∙ ap (λ o. cond (eq p.0 k) (Some p) o) (c k) ∙ ap (find eq k) (sym (reverse-append ps (p ∷ [])))

  pub put_longer : (p : K × V) (old new : List (K × V)) → IsPermutation (p ∷ without eq p.0 old) new → length new ≤ length old + 1
  put_longer p old new m = omega (arith, length_permutation (p ∷ without eq p.0 old) new m, less_key eq p.0 old)

  pub found_put : {H : Type 0} (p : K × V) (old new : HashedMap K V H) → IsPut eq p old new → IsDistinct eq (keys_of new.entries) → find eq p.0 new.entries ≡ Some p
  found_put p old new put d = find_along eq law p.0 _ new.entries put.pairs d ∙ find_put eq law p.0 p old.entries ∙ rw (law.refl p.0) refl

  pub found_others : {H : Type 0} (p : K × V) (old new : HashedMap K V H) → IsPut eq p old new → IsDistinct eq (keys_of new.entries) → (k : K) → eq p.0 k ≡ false → find eq k new.entries ≡ find eq k old.entries
  found_others p old new put d k n = find_along eq law k _ new.entries put.pairs d ∙ find_put eq law k p old.entries ∙ rw n refl

  pub find_without : (k : K) (es : List (K × V)) → find eq k (without eq k es) ≡ None
  find_without k [] = refl
  find_without k (e ∷ es) = grind (arith, find_without k es)
