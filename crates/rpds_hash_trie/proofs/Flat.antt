-- Lists of stored entries.
use Rattle.rpds_hash_trie.proofs.Words.{◌≡◌, ℕ, suc, ◌+◌, ◌%◌, ◌^◌, ◌≢◌, ◌<◌, ◌≤◌, Bool, true, false, cond, eqb, ltb, List, [], ◌∷◌, ◌++◌, Some, None, refl, sym, ap, ◌∙◌, subst, arith, ◌⊎◌, inl, inr, append_assoc, AllByRecursion, IsPermutation, IsPermutation-append_left, IsPermutation-trans, All-permutation, ne_eqb, cases_lt, digit, hash_count, Stored, AllDigit, AllHash, AllAgree, unmatched, matches, found, hashes_in}
use Rattle.std.proofs.lemmas.List.Sorted.{IsPermutation-append_right, IsPermutation-append_comm}
use Rattle.std.proofs.lemmas.List.Elements.{All-from_recursion, recursion_from_All}
use Rattle.std.proofs.lemmas.Bool.{lt-ltb, le-ltb}
use Rattle.rpds_hash_trie.proofs.Digits.{agree_more, agree_none}

-- an entry past some others
pub past : {S : Type 0} (e : S) (X W U : List S) → IsPermutation (e ∷ W) U → IsPermutation (e ∷ (X ++ W)) (X ++ U)
past e X W U q =
    let moved : IsPermutation (e ∷ (X ++ W)) ((X ++ (e ∷ [])) ++ W) = IsPermutation-append_left W (e ∷ X) (X ++ (e ∷ [])) (IsPermutation-append_comm (e ∷ []) X) in
    let there : IsPermutation (e ∷ (X ++ W)) (X ++ (e ∷ W)) = subst (λ l. IsPermutation (e ∷ (X ++ W)) l) (append_assoc X (e ∷ []) W) moved in
    IsPermutation-trans (e ∷ (X ++ W)) (X ++ (e ∷ W)) (X ++ U) there (IsPermutation-append_right X (e ∷ W) U q)

-- whether p is q, and whether it is below q, as the tests tell
abbrev pub IsToldEqual : ℕ → ℕ → Type 0
IsToldEqual p q = ((eqb p q ≡ true) × (p ≡ q)) ⊎ ((eqb p q ≡ false) × (p ≢ q))

abbrev pub IsToldLess : ℕ → ℕ → Type 0
IsToldLess p q = ((ltb p q ≡ true) × (p < q)) ⊎ ((ltb p q ≡ false) × (q ≤ p))

pub ltb_tells : (a b : ℕ) → IsToldLess a b
ltb_tells a b = go (cases_lt a b)
  where
    go : (a < b) ⊎ (b ≤ a) → IsToldLess a b
    go (inl h) = inl (lt-ltb a b h, h)
    go (inr h) = inr (le-ltb a b h, h)

module _ {K V : Type 0} where
  pub without_append : (t : Stored K V → Bool) (xs ys : List (Stored K V)) → unmatched t (xs ++ ys) ≡ unmatched t xs ++ unmatched t ys
  without_append t [] ys = refl
  without_append t (x ∷ xs) ys = grind (arith, without_append t xs ys)

  -- what is asked of each entry is kept by a permutation, and where some go
  pub each_along : (P : Stored K V → Type 0) (xs ys : List (Stored K V)) → IsPermutation xs ys → AllByRecursion P xs → AllByRecursion P ys
  each_along P xs ys q a = recursion_from_All P ys (All-permutation P xs ys q (All-from_recursion P xs a))

  pub each_without : (P : Stored K V → Type 0) (t : Stored K V → Bool) (xs : List (Stored K V)) → AllByRecursion P xs → AllByRecursion P (unmatched t xs)
  each_without P t [] a = tt
  each_without P t (x ∷ xs) a = grind (arith, each_without P t xs a.1)

  pub agree_append : (bits d h : ℕ) (xs ys : List (Stored K V)) → AllAgree bits d h (xs ++ ys) → AllAgree bits d h xs × AllAgree bits d h ys
  agree_append bits d h [] ys a = (tt, a)
  agree_append bits d h (x ∷ xs) ys a = let r = agree_append bits d h xs ys a.1 in ((a.0, r.0), r.1)

  pub deeper : (bits d h q : ℕ) (xs : List (Stored K V)) → AllAgree bits d h xs → AllDigit bits d q xs → digit (2 ^ bits) d h ≡ q → AllAgree bits (suc d) h xs
  deeper bits d h q [] a b e = tt
  deeper bits d h q (x ∷ xs) a b e = (agree_more bits d x.0 h a.0 (b.0 ∙ sym e), deeper bits d h q xs a.1 b.1 e)

  -- at the depth 0 all agree
  pub agree_all : (bits h : ℕ) (xs : List (Stored K V)) → AllAgree bits 0 h xs
  agree_all bits h [] = tt
  agree_all bits h (x ∷ xs) = (agree_none bits x.0 h, agree_all bits h xs)

  pub agree_top : (bits d h : ℕ) (xs : List (Stored K V)) → d ≡ 0 → AllAgree bits d h xs
  agree_top bits d h xs top = rw top (agree_all bits h xs)

  pub agree_hash : (bits d h : ℕ) (xs : List (Stored K V)) → AllHash h xs → AllAgree bits d h xs
  agree_hash bits d h [] a = tt
  agree_hash bits d h (x ∷ xs) a = (ap (λ n. n % (2 ^ bits) ^ d) a.0, agree_hash bits d h xs a.1)

  pub hash_count_append : (h : ℕ) (xs ys : List (Stored K V)) → hash_count h (hashes_in (xs ++ ys)) ≡ hash_count h (hashes_in xs) + hash_count h (hashes_in ys)
  hash_count_append h [] ys = omega arith
  hash_count_append h (x ∷ xs) ys = grind (arith, hash_count_append h xs ys)

  module _ {S : Type 0} (eq : K → S → Bool) (k : S) (h : ℕ) where
    abbrev t : Stored K V → Bool
    t = matches eq k h

    pub other_hash : (e : Stored K V) → (e.0 ≡ h → ⊥) → t e ≡ false
    other_hash e ne = rw (ne_eqb e.0 h ne) refl

    pub none_append : (xs ys : List (Stored K V)) → found t xs ≡ None → found t (xs ++ ys) ≡ found t ys
    none_append [] ys e = refl
    none_append (x ∷ xs) ys e = grind (arith, none_append xs ys)

    pub append_none : (xs ys : List (Stored K V)) → found t ys ≡ None → found t (xs ++ ys) ≡ found t xs
    append_none [] ys e = e
    append_none (x ∷ xs) ys e = ap (cond (t x) (Some x)) (append_none xs ys e)

    -- none of the entries has the digit of h
    pub none_in : (bits d p : ℕ) (xs : List (Stored K V)) → AllDigit bits d p xs → (digit (2 ^ bits) d h ≡ p → ⊥) → found t xs ≡ None
    none_in bits d p [] a ne = refl
    none_in bits d p (x ∷ xs) a ne = rw (other_hash x (λ e. ne (sym (ap (digit (2 ^ bits) d) e) ∙ a.0))) (none_in bits d p xs a.1 ne)

    pub without_same : (bits d q : ℕ) (xs : List (Stored K V)) → AllDigit bits d q xs → (digit (2 ^ bits) d h ≡ q → ⊥) → unmatched t xs ≡ xs
    without_same bits d q [] a ne = refl
    without_same bits d q (x ∷ xs) a ne = rw (other_hash x (λ e. ne (sym (ap (digit (2 ^ bits) d) e) ∙ a.0))) (ap (λ l. x ∷ l) (without_same bits d q xs a.1 ne))
