-- What callers need of `find` and `without`.
use Rattle.rpds_hash_trie.proofs.Words.{◌≡◌, ℕ, zero, suc, ◌+◌, Bool, true, false, not, cond, ◌||◌, List, [], ◌∷◌, Some, None, is_some, length, refl, sym, ap, subst, ◌∙◌, arith, IsEquivalence, AllByRecursion, IsPermutation, keys_of, IsPermutation-refl, IsPermutation-trans, length_permutation, IsPut, AllApart, HashedMap, find, without}
use Rattle.std.proofs.Common.{slice_get}
use Rattle.std.specs.List.{IsDistinct}
use Rattle.std.proofs.lemmas.List.Sorted.{IsPermutation-cons, IsPermutation-insert}
use Rattle.std.proofs.lemmas.Map.Keys.{IsDistinct-cons, IsDistinct-head, IsDistinct-tail}
use Rattle.rpds_hash_trie.proofs.FromIter.{find_along, find_put, find_without, find_without_other}
use Rattle.rpds_hash_trie.proofs.Distinct.{distinct_of}

-- one pair more, unless there was one
abbrev pub one_unless : Bool → ℕ
one_unless there = cond there 0 1

module _ {K : Type 0} {eq : K → K → Bool} (law : IsEquivalence eq) where
  -- what is equal to equal keys
  pub equal_to : (i j k : K) → eq j k ≡ true → eq i j ≡ eq i k
  equal_to i j k same = law.symm i j ∙ law.congr j k i same ∙ law.symm k i

module _ {K V : Type 0} {eq : K → K → Bool} (law : IsEquivalence eq) where
  pub find_same : (j k : K) (es : List (K × V)) → eq j k ≡ true → find eq j es ≡ find eq k es
  find_same j k [] same = refl
  find_same j k (e ∷ es) same = rw (equal_to law e.0 j k same) (ap (cond (eq e.0 k) (Some e)) (find_same j k es same))

  pub find_tied : (k : K) (es : List (K × V)) (p : K × V) → find eq k es ≡ Some p → eq p.0 k ≡ true
  find_tied k [] p found = absurd (cc)
  find_tied k (e ∷ es) p found = grind (arith, find_tied k es p)

  apart_at : (k : K) (es : List (K × V)) (i : ℕ) (p : K × V) → AllByRecursion (λ j. eq k j ≡ false) (keys_of es) → slice_get es i ≡ Some p → eq k p.0 ≡ false
  apart_at k [] i p apart at = absurd (cc)
  apart_at k (e ∷ es) zero p apart at = let same : e ≡ p = cc in subst (λ (x : K × V). eq k x.0 ≡ false) same apart.0
  apart_at k (e ∷ es) (suc i) p apart at = apart_at k es i p apart.1 at

  pub find_at : (es : List (K × V)) (i : ℕ) (p : K × V) → IsDistinct eq (keys_of es) → slice_get es i ≡ Some p → find eq p.0 es ≡ Some p
  find_at [] i p distinct at = absurd (cc)
  find_at (e ∷ es) zero p distinct at = let same : e ≡ p = cc in subst (λ (x : K × V). find eq x.0 (e ∷ es) ≡ Some x) same (rw (law.refl e.0) refl)
  find_at (e ∷ es) (suc i) p distinct at = rw (apart_at e.0 es i p (IsDistinct-head eq e.0 (keys_of es) distinct) at) (find_at es i p (IsDistinct-tail eq e.0 (keys_of es) distinct) at)

  pub find_permuted : (es fs : List (K × V)) → IsPermutation es fs → IsDistinct eq (keys_of fs) → (k : K) → find eq k fs ≡ find eq k es
  find_permuted es fs permuted distinct k = find_along eq law k es fs permuted distinct

  -- the same of pairs of which no key is equal to two
  pub find_after : (p : K × V) (old new : List (K × V)) → IsPermutation (p ∷ without eq p.0 old) new → AllApart eq new → (k : K) → find eq k new ≡ find eq k (p ∷ old)
  find_after p old new put apart k = find_permuted (p ∷ without eq p.0 old) new put (distinct_of eq law new apart) k ∙ find_put eq law k p old

  module _ {H : Type 0} (p : K × V) (old new : HashedMap K V H) (put : IsPut eq p old new) where
    pub find_all_put : IsDistinct eq (keys_of new.entries) → (k : K) → find eq k new.entries ≡ find eq k (p ∷ old.entries)
    find_all_put distinct k = find_permuted (p ∷ without eq p.0 old.entries) new.entries put.pairs distinct k ∙ find_put eq law k p old.entries

    pub has_put : IsDistinct eq (keys_of new.entries) → (k : K) → is_some (find eq k new.entries) ≡ (eq p.0 k || is_some (find eq k old.entries))
    has_put distinct k = ap is_some (find_all_put distinct k) ∙ either (eq p.0 k)
      where
        either : (b : Bool) → is_some (cond b (Some p) (find eq k old.entries)) ≡ (b || is_some (find eq k old.entries))
        either true = refl
        either false = refl

  -- where no key is equal to j, none is to a key that is
  all_stay : (j k : K) (es : List (K × V)) → eq j k ≡ true → AllByRecursion (λ i. eq j i ≡ false) (keys_of es) → without eq k es ≡ es
  all_stay j k [] same apart = refl
  all_stay j k (e ∷ es) same apart =
      let miss : eq e.0 k ≡ false = sym (equal_to law e.0 j k same) ∙ law.symm e.0 j ∙ apart.0 in
      rw miss (ap (λ l. e ∷ l) (all_stay j k es same apart.1))

  pub none_there : (j k : K) (es : List (K × V)) → eq j k ≡ true → AllByRecursion (λ i. eq j i ≡ false) (keys_of es) → find eq k es ≡ None
  none_there j k [] same apart = refl
  none_there j k (e ∷ es) same apart =
      let miss : eq e.0 k ≡ false = sym (equal_to law e.0 j k same) ∙ law.symm e.0 j ∙ apart.0 in
      rw miss (none_there j k es same apart.1)

  pub length_without : (k : K) (es : List (K × V)) → IsDistinct eq (keys_of es) → length (without eq k es) + cond (is_some (find eq k es)) 1 0 ≡ length es
  length_without k [] distinct = refl
  length_without k (e ∷ es) distinct = grind (arith, length_without k es (IsDistinct-tail eq e.0 (keys_of es) distinct), all_stay e.0 k es, IsDistinct-head eq e.0 (keys_of es) distinct)

  pub length_put : {H : Type 0} (p : K × V) (old new : HashedMap K V H) → IsPut eq p old new → IsDistinct eq (keys_of old.entries) → length new.entries ≡ length old.entries + one_unless (is_some (find eq p.0 old.entries))
  length_put p old new put distinct = grind (arith, length_without p.0 old.entries distinct, length_permutation (p ∷ without eq p.0 old.entries) new.entries put.pairs)

  apart_without : (j k : K) (es : List (K × V)) → AllByRecursion (λ i. eq j i ≡ false) (keys_of es) → AllByRecursion (λ i. eq j i ≡ false) (keys_of (without eq k es))
  apart_without j k [] apart = tt
  apart_without j k (e ∷ es) apart = grind (arith, apart_without j k es apart.1)

  pub distinct_without : (k : K) (es : List (K × V)) → IsDistinct eq (keys_of es) → IsDistinct eq (keys_of (without eq k es))
  distinct_without k [] distinct = distinct
  distinct_without k (e ∷ es) distinct = grind (arith, distinct_without k es (IsDistinct-tail eq e.0 (keys_of es) distinct), apart_without e.0 k es (IsDistinct-head eq e.0 (keys_of es) distinct), IsDistinct-cons eq e.0 (keys_of (without eq k es)))

  -- a pair that is found comes first, and the others behind it
  pulled : (k : K) (es : List (K × V)) (p : K × V) → IsDistinct eq (keys_of es) → find eq k es ≡ Some p → IsPermutation (p ∷ without eq k es) es
  pulled k [] p distinct found = absurd (cc)
  pulled k (e ∷ es) p distinct found = go (pulled k es p (IsDistinct-tail eq e.0 (keys_of es) distinct)) (eq e.0 k) refl found
    where
      go : (find eq k es ≡ Some p → IsPermutation (p ∷ without eq k es) es) → (b : Bool) → eq e.0 k ≡ b → cond b (Some e) (find eq k es) ≡ Some p
          → IsPermutation (p ∷ cond (not b) (e ∷ without eq k es) (without eq k es)) (e ∷ es)
      go rest true is found =
          let same : e ≡ p = cc in
          rw (all_stay e.0 k es is (IsDistinct-head eq e.0 (keys_of es) distinct)) (subst (λ (x : K × V). IsPermutation (x ∷ es) (e ∷ es)) same (IsPermutation-refl (e ∷ es)))
      go rest false is found =
          IsPermutation-trans (p ∷ e ∷ without eq k es) (e ∷ p ∷ without eq k es) (e ∷ es) (IsPermutation-insert (e ∷ without eq k es) 1 p) (IsPermutation-cons e (p ∷ without eq k es) es (rest found))

  -- two lists in which each key finds the same pair
  abbrev pub Alike : List (K × V) → List (K × V) → Type 0
  Alike es fs = (k : K) → find eq k es ≡ find eq k fs

  alike_rest : (e : K × V) (es fs : List (K × V)) → IsDistinct eq (keys_of (e ∷ es)) → Alike (e ∷ es) fs → Alike es (without eq e.0 fs)
  alike_rest e es fs distinct alike k = go (eq e.0 k) refl (alike k)
    where
      go : (b : Bool) → eq e.0 k ≡ b → cond b (Some e) (find eq k es) ≡ find eq k fs → find eq k es ≡ find eq k (without eq e.0 fs)
      go true is here =
          none_there e.0 k es is (IsDistinct-head eq e.0 (keys_of es) distinct) ∙ sym (find_without eq law e.0 fs) ∙ find_same e.0 k (without eq e.0 fs) is
      go false is here = here ∙ sym (find_without_other eq law k e.0 fs is)

  pub permuted_alike : (es fs : List (K × V)) → IsDistinct eq (keys_of es) → IsDistinct eq (keys_of fs) → Alike es fs → IsPermutation es fs
  permuted_alike [] [] des dfs alike = IsPermutation-refl []
  permuted_alike [] (f ∷ fs) des dfs alike =
      let here : find eq f.0 (f ∷ fs) ≡ Some f = find_at (f ∷ fs) 0 f dfs refl in
      let none : None ≡ find eq f.0 (f ∷ fs) = alike f.0 in
      absurd (cc)
  permuted_alike (e ∷ es) fs des dfs alike =
      let there : find eq e.0 fs ≡ Some e = sym (alike e.0) ∙ find_at (e ∷ es) 0 e des refl in
      let rest = permuted_alike es (without eq e.0 fs) (IsDistinct-tail eq e.0 (keys_of es) des) (distinct_without e.0 fs dfs) (alike_rest e es fs des alike) in
      IsPermutation-trans (e ∷ es) (e ∷ without eq e.0 fs) fs (IsPermutation-cons e es (without eq e.0 fs) rest) (pulled e.0 fs e dfs there)
