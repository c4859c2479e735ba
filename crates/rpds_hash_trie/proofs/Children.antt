-- The children of a branch.
use Rattle.rpds_hash_trie.proofs.Words.{◌≡◌, ℕ, suc, ◌+◌, ◌<◌, ◌≤◌, Bool, cond, List, [], ◌∷◌, ◌++◌, Some, None, length, refl, sym, ap, ◌∙◌, subst, arith, inl, inr, length-append, ◌^◌, Option, IsPermutation, append-nil, IsPermutation-append_left, ne_eqb, eqb_tells, nat_tests, item_at, put_at, without_at, digit, hash_count, Stored, Trie, flat, AllChildren, IsChildAt, AllDigit, AllAgree, unmatched, matches, found, hashes_in}
use Rattle.rpds_hash_trie.proofs.Flat.{past, ltb_tells, without_append, agree_append, deeper, none_append, append_none, none_in, without_same, hash_count_append, IsToldEqual, IsToldLess}

module _ {K V : Type 0} where
  -- the entries below a place
  abbrev pub under : Option (Trie K V) → List (Stored K V)
  under None = []
  under (Some v) = v.entries

pub off : (bits d h p q : ℕ) → digit (2 ^ bits) d h ≡ p → (p ≡ q → ⊥) → digit (2 ^ bits) d h ≡ q → ⊥
off bits d h p q dp ne e = ne (sym dp ∙ e)

module _ {K S V : Type 0} (eq : K → S → Bool) (k : S) (h bits d p : ℕ) (dp : digit (2 ^ bits) d h ≡ p) where
  abbrev t : Stored K V → Bool
  t = matches eq k h

  -- the children above the place have other digits
  pub above_none : (low : ℕ) (cs : List (ℕ × Trie K V)) → AllChildren bits d low cs → p < low → item_at p cs ≡ None
  above_none low [] a lt = refl
  above_none low (c ∷ cs) a lt = let le : low ≤ c.0 = a.0 in rw (ne_eqb p c.0 (λ e. absurd (omega arith))) (above_none (suc c.0) cs a.1.1 (omega arith))

  pub above_found : (low : ℕ) (cs : List (ℕ × Trie K V)) → AllChildren bits d low cs → p < low → found t (flat cs) ≡ None
  above_found low [] a lt = refl
  above_found low (c ∷ cs) a lt =
      let le : low ≤ c.0 = a.0 in
      none_append eq k h c.1.entries (flat cs) (none_in eq k h bits d c.0 c.1.entries a.1.0.digits (off bits d h p c.0 dp (λ e. absurd (omega arith)))) ∙ above_found (suc c.0) cs a.1.1 (omega arith)

  above_kept : (low : ℕ) (cs : List (ℕ × Trie K V)) → AllChildren bits d low cs → p < low → unmatched t (flat cs) ≡ flat cs
  above_kept low [] a lt = refl
  above_kept low (c ∷ cs) a lt =
      let le : low ≤ c.0 = a.0 in
      without_append t c.1.entries (flat cs) ∙ ap (λ l. l ++ unmatched t (flat cs)) (without_same eq k h bits d c.0 c.1.entries a.1.0.digits (off bits d h p c.0 dp (λ e. absurd (omega arith))))
      ∙ ap (λ l. c.1.entries ++ l) (above_kept (suc c.0) cs a.1.1 (omega arith))

  -- the key is looked for below the place alone
  pub found_under : (low : ℕ) (cs : List (ℕ × Trie K V)) → AllChildren bits d low cs → found t (flat cs) ≡ found t (under (item_at p cs))
  found_under low [] a = refl
  found_under low (c ∷ cs) a = grind (arith, nat_tests, found_under (suc c.0) cs a.1.1, append_none eq k h c.1.entries (flat cs), above_found (suc c.0) cs a.1.1, none_append eq k h c.1.entries (flat cs), none_in eq k h bits d c.0 c.1.entries a.1.0.digits)

  pub child_at : (low : ℕ) (cs : List (ℕ × Trie K V)) (v : Trie K V) → AllChildren bits d low cs → item_at p cs ≡ Some v → IsChildAt bits d p v
  child_at low [] v a e = cc
  child_at low (c ∷ cs) v a e = grind (arith, nat_tests, child_at (suc c.0) cs v a.1.1)

  -- a child put in changes the entries below its place alone
  pub put_perm : (e : Stored K V) (v : Trie K V) (low : ℕ) (cs : List (ℕ × Trie K V)) → AllChildren bits d low cs → IsPermutation (e ∷ unmatched t (under (item_at p cs))) v.entries
      → IsPermutation (e ∷ unmatched t (flat cs)) (flat (put_at p v cs))
  put_perm e v low [] a q = rw (append-nil v.entries) q
  put_perm e v low (x ∷ xs) a q = go (ltb_tells p x.0) (eqb_tells p x.0) (put_perm e v (suc x.0) xs a.1.1)
    where
      go : IsToldLess p x.0 → IsToldEqual p x.0
          → (IsPermutation (e ∷ unmatched t (under (item_at p xs))) v.entries → IsPermutation (e ∷ unmatched t (flat xs)) (flat (put_at p v xs)))
          → IsPermutation (e ∷ unmatched t (x.1.entries ++ flat xs)) (flat (put_at p v (x ∷ xs)))
      go (inl l) s ih =
          let at : x.0 ≤ x.0 = omega arith in
          let w : unmatched t (x.1.entries ++ flat xs) ≡ x.1.entries ++ flat xs = above_kept x.0 (x ∷ xs) (at, a.1) l.1 in
          let i : item_at p (x ∷ xs) ≡ None = above_none x.0 (x ∷ xs) (at, a.1) l.1 in
          let r : IsPermutation (e ∷ []) v.entries = subst (λ o. IsPermutation (e ∷ unmatched t (under o)) v.entries) i q in
          rw (l.0, w) (IsPermutation-append_left (x.1.entries ++ flat xs) (e ∷ []) v.entries r)
      go (inr l) (inl s) ih =
          let le : p < suc x.0 = let same : p ≡ x.0 = s.1 in omega arith in
          let w : unmatched t (x.1.entries ++ flat xs) ≡ unmatched t x.1.entries ++ flat xs = without_append t x.1.entries (flat xs) ∙ ap (λ l. unmatched t x.1.entries ++ l) (above_kept (suc x.0) xs a.1.1 le) in
          let r : IsPermutation (e ∷ unmatched t x.1.entries) v.entries = subst (λ b. IsPermutation (e ∷ unmatched t (under (cond b (Some x.1) (item_at p xs)))) v.entries) s.0 q in
          rw (l.0, s.0, w) (IsPermutation-append_left (flat xs) (e ∷ unmatched t x.1.entries) v.entries r)
      go (inr l) (inr s) ih =
          let w : unmatched t (x.1.entries ++ flat xs) ≡ x.1.entries ++ unmatched t (flat xs) = without_append t x.1.entries (flat xs) ∙ ap (λ l. l ++ unmatched t (flat xs)) (without_same eq k h bits d x.0 x.1.entries a.1.0.digits (off bits d h p x.0 dp s.1)) in
          let r : IsPermutation (e ∷ unmatched t (under (item_at p xs))) v.entries = subst (λ b. IsPermutation (e ∷ unmatched t (under (cond b (Some x.1) (item_at p xs)))) v.entries) s.0 q in
          rw (l.0, s.0, w) (past e x.1.entries (unmatched t (flat xs)) (flat (put_at p v xs)) (ih r))

  pub put_children : (v : Trie K V) (low : ℕ) (cs : List (ℕ × Trie K V)) → AllChildren bits d low cs → low ≤ p → IsChildAt bits d p v → AllChildren bits d low (put_at p v cs)
  put_children v low [] a le f = (le, (f, tt))
  put_children v low (x ∷ xs) a le f = grind (arith, nat_tests, put_children v (suc x.0) xs a.1.1)

  -- a child that lost the key, put in its own place
  pub put_less : (v : Trie K V) (low : ℕ) (cs : List (ℕ × Trie K V)) (old : Trie K V) → AllChildren bits d low cs → item_at p cs ≡ Some old → v.entries ≡ unmatched t old.entries
      → (flat (put_at p v cs) ≡ unmatched t (flat cs)) × (length (put_at p v cs) ≡ length cs)
  put_less v low [] old a i e = cc
  put_less v low (x ∷ xs) old a i e =
      let less = put_less v (suc x.0) xs old a.1.1 in
      grind (arith, nat_tests, less, without_append t x.1.entries (flat xs), above_kept (suc x.0) xs a.1.1, above_none (suc x.0) xs a.1.1, without_same eq k h bits d x.0 x.1.entries a.1.0.digits)

  -- the children without one that lost all
  pub taken_less : (low : ℕ) (cs : List (ℕ × Trie K V)) (old : Trie K V) → AllChildren bits d low cs → item_at p cs ≡ Some old → unmatched t old.entries ≡ []
      → (flat (without_at p cs) ≡ unmatched t (flat cs)) × AllChildren bits d low (without_at p cs)
  taken_less low [] old a i e = cc
  taken_less low (x ∷ xs) old a i e = go (eqb_tells p x.0) (taken_less (suc x.0) xs old a.1.1)
    where
      go : IsToldEqual p x.0
          → (item_at p xs ≡ Some old → unmatched t old.entries ≡ [] → (flat (without_at p xs) ≡ unmatched t (flat xs)) × AllChildren bits d (suc x.0) (without_at p xs))
          → (flat (without_at p (x ∷ xs)) ≡ unmatched t (x.1.entries ++ flat xs)) × AllChildren bits d low (without_at p (x ∷ xs))
      go (inl s) ih =
          let le : p < suc x.0 = let same : p ≡ x.0 = s.1 in omega arith in
          let same : Some x.1 ≡ Some old = ap (λ b. cond b (Some x.1) (item_at p xs)) (sym s.0) ∙ i in
          let is : x.1 ≡ old = cc in
          let gone : unmatched t x.1.entries ≡ [] = ap (λ (w : Trie K V). unmatched t w.entries) is ∙ e in
          let low_le : low ≤ x.0 = a.0 in
          rw s.0 (sym (without_append t x.1.entries (flat xs) ∙ ap (λ l. l ++ unmatched t (flat xs)) gone ∙ above_kept (suc x.0) xs a.1.1 le), raised low x.0 xs (omega arith) a.1.1)
        where
          raised : (low q : ℕ) (cs : List (ℕ × Trie K V)) → low ≤ suc q → AllChildren bits d (suc q) cs → AllChildren bits d low cs
          raised low q [] le a = tt
          raised low q (c ∷ cs) le a = let up : suc q ≤ c.0 = a.0 in (omega arith, a.1)
      go (inr s) ih =
          let r = ih (ap (λ b. cond b (Some x.1) (item_at p xs)) (sym s.0) ∙ i) e in
          rw s.0 (ap (λ l. x.1.entries ++ l) r.0 ∙ sym (without_append t x.1.entries (flat xs) ∙ ap (λ l. l ++ unmatched t (flat xs)) (without_same eq k h bits d x.0 x.1.entries a.1.0.digits (off bits d h p x.0 dp s.1))), (a.0, (a.1.0, r.1)))

  -- as many entries go as below the place
  pub once_under : (low : ℕ) (cs : List (ℕ × Trie K V)) → AllChildren bits d low cs → length (flat cs) + length (unmatched t (under (item_at p cs))) ≡ length (unmatched t (flat cs)) + length (under (item_at p cs))
  once_under low [] a = refl
  once_under low (x ∷ xs) a = grind (arith, nat_tests, once_under (suc x.0) xs a.1.1, without_append t x.1.entries (flat xs), above_kept (suc x.0) xs a.1.1, without_same eq k h bits d x.0 x.1.entries a.1.0.digits, length-append x.1.entries (flat xs), length-append (unmatched t x.1.entries) (flat xs), length-append x.1.entries (unmatched t (flat xs)))

  pub agree_under : (low : ℕ) (cs : List (ℕ × Trie K V)) → AllChildren bits d low cs → AllAgree bits d h (flat cs) → AllAgree bits (suc d) h (under (item_at p cs))
  agree_under low [] a g = tt
  agree_under low (x ∷ xs) a g = grind (arith, nat_tests, agree_append bits d h x.1.entries (flat xs) g, agree_under (suc x.0) xs a.1.1, deeper bits d h x.0 x.1.entries)

  pub digit_under : (low : ℕ) (cs : List (ℕ × Trie K V)) → AllChildren bits d low cs → AllDigit bits d p (under (item_at p cs))
  digit_under low [] a = tt
  digit_under low (x ∷ xs) a = grind (arith, nat_tests, digit_under (suc x.0) xs a.1.1)

  pub count_under : (low : ℕ) (cs : List (ℕ × Trie K V)) → hash_count h (hashes_in (under (item_at p cs))) ≤ hash_count h (hashes_in (flat cs))
  count_under low [] = omega arith
  count_under low (x ∷ xs) = grind (arith, count_under low xs, hash_count_append h x.1.entries (flat xs))
