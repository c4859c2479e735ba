-- Look-ups among two nodes' entries.
use Rattle.rpds_hash_trie.proofs.Words.{nat_tests, ◌≡◌, ℕ, suc, ◌+◌, ◌≤◌, Bool, true, false, cond, eqb, ◌&&◌, ◌⊎◌, inl, inr, List, [], ◌∷◌, ◌++◌, Some, None}
use Rattle.rpds_hash_trie.proofs.Words.{length, map, is_some, is_none, refl, sym, ap, ◌∙◌, subst, arith, Option, option_map, false≢true, length-map, length-append}
use Rattle.rpds_hash_trie.proofs.Words.{IsEquivalence, IsPermutation, IsPermutation-map, length_permutation, AllByRecursion, Stored, Trie, matches, found}
use Rattle.rpds_hash_trie.proofs.Words.{unmatched, find, without, AllApart}
use Rattle.std.specs.Cmp.{and_equiv, on_equiv, nat_eq_equiv}
use Rattle.std.specs.List.{sum_by}
use Rattle.std.specs.Option.{option_or}
use Rattle.std.proofs.lemmas.List.Sorted.{sum_by-IsPermutation}
use Rattle.std.proofs.lemmas.List.Sums.{sum_by-cons}
use Rattle.rpds_hash_trie.specs.HashUnion.{AllOnce, FindsEither, IsUnited}
use Rattle.rpds_hash_trie.proofs.MapInsert.{apart_put}
use Rattle.rpds_hash_trie.proofs.KeyLaws.{find_same, find_after, length_without}
use Rattle.rpds_hash_trie.proofs.Distinct.{distinct_of}

module _ {K V : Type 0} where
  -- an entry as a pair whose key has the hash with it
  abbrev pair : Stored K V → (ℕ × K) × V
  pair e = ((e.0, e.1.0), e.1.1)

  abbrev entry : (ℕ × K) × V → Stored K V
  entry p = (p.0.0, (p.0.1, p.1))

  abbrev keyed : List (Stored K V) → List ((ℕ × K) × V)
  keyed = map pair

  pub found_append : (t : Stored K V → Bool) (xs ys : List (Stored K V)) → found t (xs ++ ys) ≡ option_or (found t xs) (found t ys)
  found_append t [] ys = refl
  found_append t (x ∷ xs) ys = grind (arith, found_append t xs ys)

  kept_sum : (t : Stored K V → Bool) (xs : List (Stored K V)) → length (unmatched t xs) ≡ sum_by (λ e. cond (t e) 0 1) xs
  kept_sum t [] = refl
  kept_sum t (x ∷ xs) = grind (arith, kept_sum t xs) ∙ sym (sum_by-cons (λ e. cond (t e) 0 1) x xs)

  pub or_assoc : (a b c : Option (Stored K V)) → option_or (option_or a b) c ≡ option_or a (option_or b c)
  or_assoc None b c = refl
  or_assoc (Some x) b c = refl

module _ {K : Type 0} (eq : K → K → Bool) where
  abbrev both : ℕ × K → ℕ × K → Bool
  both x y = eqb x.0 y.0 && eq x.1 y.1

  both_law : IsEquivalence eq → IsEquivalence both
  both_law law = and_equiv (on_equiv (λ (x : ℕ × K). x.0) nat_eq_equiv) (on_equiv (λ (x : ℕ × K). x.1) law)

module _ {K V : Type 0} {eq : K → K → Bool} (law : IsEquivalence eq) where
  found_keyed : (k : K) (h : ℕ) (xs : List (Stored K V)) → found (matches eq k h) xs ≡ option_map entry (find (both eq) (h, k) (keyed xs))
  found_keyed k h [] = refl
  found_keyed k h (x ∷ xs) = grind (arith, found_keyed k h xs)

  unmatched_keyed : (k : K) (h : ℕ) (xs : List (Stored K V)) → keyed (unmatched (matches eq k h) xs) ≡ without (both eq) (h, k) (keyed xs)
  unmatched_keyed k h [] = refl
  unmatched_keyed k h (x ∷ xs) = grind (arith, unmatched_keyed k h xs)

  apart_keyed : (xs : List (Stored K V)) → AllOnce eq xs → AllApart (both eq) (keyed xs)
  apart_keyed xs once j =
      let one : length xs ≤ length (unmatched (matches eq j.1 j.0) xs) + 1 = once j.1 j.0 in
      let all : length (keyed xs) ≡ length xs = length-map xs pair in
      let kept : length (without (both eq) j (keyed xs)) ≡ length (unmatched (matches eq j.1 j.0) xs) = ap length (sym (unmatched_keyed j.1 j.0 xs))
      ∙ length-map (unmatched (matches eq j.1 j.0) xs) pair in
      omega arith

  once_keyed : (xs : List (Stored K V)) → AllApart (both eq) (keyed xs) → AllOnce eq xs
  once_keyed xs apart k h =
      let one : length (keyed xs) ≤ length (without (both eq) (h, k) (keyed xs)) + 1 = apart (h, k) in
      let all : length (keyed xs) ≡ length xs = length-map xs pair in
      let kept : length (without (both eq) (h, k) (keyed xs)) ≡ length (unmatched (matches eq k h) xs) = ap length (sym (unmatched_keyed k h xs))
      ∙ length-map (unmatched (matches eq k h) xs) pair in
      omega arith

  once_along : (xs ys : List (Stored K V)) → IsPermutation xs ys → AllOnce eq xs → AllOnce eq ys
  once_along xs ys q once k h =
      let t = matches {V = V} eq k h in
      let one : length xs ≤ length (unmatched t xs) + 1 = once k h in
      omega (arith, one, length_permutation xs ys q, kept_sum t xs ∙ sym (sum_by-IsPermutation (λ e. cond (t e) 0 1) xs ys q) ∙ sym (kept_sum t ys))

  -- equal keys find the same entry
  found_same : (j k : K) (g h : ℕ) (xs : List (Stored K V)) → (both eq) (g, j) (h, k) ≡ true → found (matches eq j g) xs ≡ found (matches eq k h) xs
  found_same j k g h xs same = found_keyed j g xs ∙ ap (option_map entry) (find_same (both_law eq law) (g, j) (h, k) (keyed xs) same) ∙ sym (found_keyed k h xs)

  -- no entry goes where none is found, and one where one is found
  length_found : (k : K) (h : ℕ) (xs : List (Stored K V)) → AllOnce eq xs → length (unmatched (matches eq k h) xs)
      + cond (is_some (found (matches eq k h) xs)) 1 0 ≡ length xs
  length_found k h xs once =
      let counted = length_without (both_law eq law) (h, k) (keyed xs) (distinct_of (both eq) (both_law eq law) (keyed xs) (apart_keyed xs once)) in
      let some : is_some (find (both eq) (h, k) (keyed xs)) ≡ is_some (found (matches eq k h) xs) = told (find (both eq) (h, k) (keyed xs))
      ∙ ap is_some (sym (found_keyed k h xs)) in
      let kept : length (without (both eq) (h, k) (keyed xs)) ≡ length (unmatched (matches eq k h) xs) = ap length (sym (unmatched_keyed k h xs))
      ∙ length-map (unmatched (matches eq k h) xs) pair in
      let counted' : length (unmatched (matches eq k h) xs) + cond (is_some (found (matches eq k h) xs)) 1 0
      ≡ length (keyed xs) = rw (← some, ← kept) counted in
      counted' ∙ length-map xs pair
    where
      told : (o : Option ((ℕ × K) × V)) → is_some o ≡ is_some (option_map entry o)
      told None = refl
      told (Some p) = refl

  -- an entry put in
  module _ (e : Stored K V) (xs zs : List (Stored K V)) (once : AllOnce eq xs) (put : IsPermutation (e ∷ unmatched (matches eq e.1.0 e.0) xs) zs) where
    abbrev t : Stored K V → Bool
    t = matches eq e.1.0 e.0

    pairs_put : IsPermutation (pair e ∷ without (both eq) (e.0, e.1.0) (keyed xs)) (keyed zs)
    pairs_put = subst (λ l. IsPermutation (pair e ∷ l) (keyed zs)) (unmatched_keyed e.1.0 e.0 xs) (IsPermutation-map pair (e ∷ unmatched t xs) zs put)

    pub once_put : AllOnce eq zs
    once_put =
        let there : AllApart (both eq) (keyed (e ∷ unmatched t xs)) = subst (λ l. AllApart (both eq) (pair e ∷ l)) (sym (unmatched_keyed e.1.0 e.0 xs))
        (apart_put (both eq) (both_law eq law) (e.0, e.1.0) e.1.1 (keyed xs) (apart_keyed xs once)) in
        once_along (e ∷ unmatched t xs) zs put (once_keyed (e ∷ unmatched t xs) there)

    pub found_put : (k : K) (h : ℕ) → found (matches eq k h) zs ≡ found (matches eq k h) (e ∷ xs)
    found_put k h =
        found_keyed k h zs ∙ ap (option_map entry) (find_after (both_law eq law) (pair e) (keyed xs) (keyed zs) pairs_put (apart_keyed zs once_put) (h, k))
        ∙ sym (found_keyed k h (e ∷ xs))

    pub length_put : length zs + cond (is_some (found t xs)) 1 0 ≡ suc (length xs)
    length_put = omega (arith, length_permutation (e ∷ unmatched t xs) zs put, length_found e.1.0 e.0 xs once)

  pub or_none : (o : Option (Stored K V)) → option_or o None ≡ o
  or_none None = refl
  or_none (Some x) = refl

  kept_or : (o : Option (Stored K V)) (x : Stored K V) (b : Bool) → (b ≡ true → is_some o ≡ true) → o ≡ option_or o (cond b (Some x) None)
  kept_or (Some y) x b there = refl
  kept_or None x true there = absurd (false≢true (there refl))
  kept_or None x false there = refl

  added_or : (o : Option (Stored K V)) (x : Stored K V) (b : Bool) → (b ≡ true → is_some o ≡ false) → cond b (Some x) o ≡ option_or o (cond b (Some x) None)
  added_or None x b absent = refl
  added_or (Some y) x true absent = absurd (false≢true (sym (absent refl)))
  added_or (Some y) x false absent = refl

  front_or : (o : Option (Stored K V)) (x : Stored K V) (b : Bool) → cond b (Some x) o ≡ option_or (cond b (Some x) None) o
  front_or o x true = refl
  front_or o x false = refl

  pub either_some : (a b : Option (Stored K V)) → is_some (option_or a b) ≡ true → (is_some a ≡ true) ⊎ (is_some b ≡ true)
  either_some (Some x) b some = inl refl
  either_some None b some = inr some

  -- what holds of the hashes of the entries holds of one by which an entry is found
  some_has : (Q : ℕ → Type 0) (k : K) (h : ℕ) (xs : List (Stored K V)) → AllByRecursion (λ e. Q e.0) xs → is_some (found (matches eq k h) xs) ≡ true → Q h
  some_has Q k h [] all some = absurd (false≢true some)
  some_has Q k h (x ∷ xs) all some = grind (arith, nat_tests, some_has Q k h xs all.1)

  -- each entry is found by its own key and hash
  pub each_found : (P : Stored K V → Type 0) (zs : List (Stored K V)) → ((e : Stored K V) → is_some (found (matches eq e.1.0 e.0) zs) ≡ true → P e)
      → AllByRecursion P zs
  each_found P [] all = tt
  each_found P (x ∷ zs) all = (
    all x (ap (λ b. is_some (cond b (Some x) (found (matches eq x.1.0 x.0) zs))) ((both_law eq law).refl (x.0, x.1.0))),
    each_found P zs
        (λ e some. all e (behind (matches eq e.1.0 e.0 x) (found (matches eq e.1.0 e.0) zs) some)),
  )
    where
      behind : (b : Bool) (o : Option (Stored K V)) → is_some o ≡ true → is_some (cond b (Some x) o) ≡ true
      behind true o some = refl
      behind false o some = some

  pub each_either : (Q : ℕ → Type 0) (xs ys zs : List (Stored K V)) → FindsEither eq xs ys zs → AllByRecursion (λ e. Q e.0) xs
      → AllByRecursion (λ e. Q e.0) ys → AllByRecursion (λ e. Q e.0) zs
  each_either Q xs ys zs finds all_xs all_ys = each_found (λ e. Q e.0) zs (λ e some. go e (either_some (found (matches eq e.1.0 e.0) xs)
      (found (matches eq e.1.0 e.0) ys) (ap is_some (sym (finds e.1.0 e.0)) ∙ some)))
    where
      go : (e : Stored K V) → (is_some (found (matches eq e.1.0 e.0) xs) ≡ true) ⊎ (is_some (found (matches eq e.1.0 e.0) ys) ≡ true) → Q e.0
      go e (inl some) = some_has Q e.1.0 e.0 xs all_xs some
      go e (inr some) = some_has Q e.1.0 e.0 ys all_ys some

  -- an entry whose key is there
  pub stays_united : (v : Trie K V) (e : Stored K V) (n : ℕ) → AllOnce eq v.entries → is_some (found (matches eq e.1.0 e.0) v.entries) ≡ true
      → IsUnited eq v (e ∷ []) v n (n + 1)
  stays_united v e n once there = record {
    bits = refl;
    depth = refl;
    found_in = (λ k h. kept_or (found (matches eq k h) v.entries) e (matches eq k h e) (λ same. ap is_some (sym (found_same e.1.0 k e.0 h v.entries same))
        ∙ there));
    once = once;
    sum = omega arith;
    most = omega arith;
  }

  -- one whose key is absent, put in
  pub put_united : (v w : Trie K V) (e : Stored K V) (n : ℕ) → AllOnce eq v.entries → is_some (found (matches eq e.1.0 e.0) v.entries) ≡ false
      → w.bits ≡ v.bits → w.depth ≡ v.depth → IsPermutation (e ∷ unmatched (matches eq e.1.0 e.0) v.entries) w.entries → IsUnited eq v (e ∷ []) w n n
  put_united v w e n once absent bits depth put = record {
    bits = bits;
    depth = depth;
    found_in = (λ k h. found_put e v.entries w.entries once put k h ∙ added_or (found (matches eq k h) v.entries) e (matches eq k h e)
        (λ same. ap is_some (sym (found_same e.1.0 k e.0 h v.entries same)) ∙ absent));
    once = once_put e v.entries w.entries once put;
    sum = omega (arith, rw absent at (length_put e v.entries w.entries once put));
    most = omega arith;
  }

  -- one that takes the place of that of its key
  pub front_united : (v u w : Trie K V) (e : Stored K V) (m n : ℕ) → v.entries ≡ e ∷ [] → AllOnce eq u.entries → w.bits ≡ v.bits → w.depth ≡ v.depth
      → IsPermutation (e ∷ unmatched (matches eq e.1.0 e.0) u.entries) w.entries → n ≡ m + cond (is_some (found (matches eq e.1.0 e.0) u.entries)) 1 0
      → IsUnited eq v u.entries w m n
  front_united v u w e m n is once bits depth put counted = record {
    bits = bits;
    depth = depth;
    found_in = (λ k h. rw is (found_put e u.entries w.entries once put k h ∙ front_or (found (matches eq k h) u.entries) e (matches eq k h e)));
    once = once_put e u.entries w.entries once put;
    sum = rw is (omega (arith, counted, length_put e u.entries w.entries once put));
    most = grind (arith, counted, length_found e.1.0 e.0 u.entries once);
  }

  -- some entries, and then others
  pub united_on : (v w x : Trie K V) (ys zs : List (Stored K V)) (l m n : ℕ) → IsUnited eq v ys w l m → IsUnited eq w zs x m n → IsUnited eq v (ys ++ zs) x l n
  united_on v w x ys zs l m n a b =
      let s = a.sum in
      let t = b.sum in
      let p = a.most in
      let q = b.most in
      record {
        bits = b.bits ∙ a.bits;
        depth = b.depth ∙ a.depth;
        found_in = (λ k h.
            let f = λ (l : List (Stored K V)). found (matches eq k h) l in
            b.found_in k h ∙ ap (λ o. option_or o (f zs)) (a.found_in k h) ∙ or_assoc (f v.entries) (f ys) (f zs)
            ∙ ap (option_or (f v.entries)) (sym (found_append (matches eq k h) ys zs)));
        once = b.once;
        sum = omega (arith, s, t, length-append ys zs);
        most = omega (arith, p, q, length-append ys zs);
      }

-- a key that was not new is counted
pub counted_of : {X : Type 0} (o : Option X) (n : ℕ) (fresh : Bool) → fresh ≡ is_none o → fresh ≡ false → n + 1 ≡ n + cond (is_some o) 1 0
counted_of None n fresh is old = absurd (false≢true (sym old ∙ is))
counted_of (Some x) n fresh is old = refl

pub not_counted : {X : Type 0} (o : Option X) (n : ℕ) (fresh : Bool) → fresh ≡ is_none o → fresh ≡ true → n ≡ n + cond (is_some o) 1 0
not_counted None n fresh is old = omega arith
not_counted (Some x) n fresh is old = absurd (false≢true (sym is ∙ old))
