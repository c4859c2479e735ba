-- How far down the entry of a key lies.
use Rattle.rpds_hash_trie.proofs.Words.{nat_tests, ◌≡◌, ℕ, zero, suc, ◌+◌, ◌-◌, ◌*◌, ◌/◌, ◌%◌, ◌^◌, ◌<◌, ◌≤◌, Bool, true, false, ◌||◌, eqb, List, [], ◌∷◌, ◌++◌, length, refl, sym, ap, ◌∙◌, arith, inl, inr, ne_eqb, eqb_tells, mod-lt, item_at, agree, digit, reach_within, Stored, Trie, flat, AllChildren, AllDigit, AllAgree, unmatched, matches, hashes_in}
use Rattle.std.proofs.lemmas.Nat.{div-mul-add}
use Rattle.std.proofs.Math.Pow.{mod-mod-pow}
use Rattle.std.proofs.Math.Nat.{add-mul}
use Rattle.rpds_hash_trie.specs.Digits.{any_agrees}
use Rattle.rpds_hash_trie.specs.HashTrie.{level_count, levels_between}
use Rattle.rpds_hash_trie.proofs.Digits.{pow_is, weight_pos, split_up}
use Rattle.rpds_hash_trie.proofs.Flat.{without_append, each_without, IsToldEqual}
use Rattle.rpds_hash_trie.proofs.Children.{under}

-- fewer digits agree where more do
pub agree_less : (bits d e g h : ℕ) → d ≤ e → agree (2 ^ bits) e g h → agree (2 ^ bits) d g h
agree_less bits d e g h le a =
    let more : ℕ = (e - d) * bits in
    let sum : e * bits ≡ more + d * bits = ap (λ n. n * bits) (let s : e ≡ (e - d) + d = omega arith in s) ∙ add-mul (e - d) d bits in
    let shorter : (n : ℕ) → n % (2 ^ bits) ^ e % (2 ^ bits) ^ d ≡ n % (2 ^ bits) ^ d = (λ n. rw (← pow_is bits e, ← pow_is bits d, sum) (mod-mod-pow n more (d * bits))) in
    sym (shorter g) ∙ ap (λ n. n % (2 ^ bits) ^ d) a ∙ shorter h

-- the digit on top of those that agree
top_digit : (bits d g : ℕ) → digit (2 ^ bits) d g ≡ g % (2 ^ bits) ^ suc d / (2 ^ bits) ^ d
top_digit bits d g = sym (ap (λ n. n / (2 ^ bits) ^ d) (split_up bits d g) ∙ div-mul-add (digit (2 ^ bits) d g) ((2 ^ bits) ^ d) (g % (2 ^ bits) ^ d) (mod-lt g (weight_pos bits d)))

pub agree_digit : (bits d e g h : ℕ) → d < e → agree (2 ^ bits) e g h → digit (2 ^ bits) d g ≡ digit (2 ^ bits) d h
agree_digit bits d e g h lt a = top_digit bits d g ∙ ap (λ n. n / (2 ^ bits) ^ d) (agree_less bits (suc d) e g h lt a) ∙ sym (top_digit bits d h)

module _ {K V : Type 0} (bits h : ℕ) where
  -- an entry has the first d digits of h
  abbrev any : ℕ → List (Stored K V) → Bool
  any d xs = any_agrees (2 ^ bits) d h (hashes_in xs)

  -- of the n depths from d on, how many have such an entry
  abbrev levels : List (Stored K V) → ℕ → ℕ → ℕ
  levels xs d n = reach_within (2 ^ bits) h (hashes_in xs) d n

  any_append : (d : ℕ) (xs ys : List (Stored K V)) → any d xs ≡ false → any d (xs ++ ys) ≡ any d ys
  any_append d [] ys e = refl
  any_append d (x ∷ xs) ys e = grind (arith, any_append d xs ys)

  append_any : (d : ℕ) (xs ys : List (Stored K V)) → any d ys ≡ false → any d (xs ++ ys) ≡ any d xs
  append_any d [] ys e = e
  append_any d (x ∷ xs) ys e = ap (λ b. eqb (x.0 % (2 ^ bits) ^ d) (h % (2 ^ bits) ^ d) || b) (append_any d xs ys e)

  -- entries with another digit agree no further
  any_off : (d e q : ℕ) (xs : List (Stored K V)) → d < e → AllDigit bits d q xs → (digit (2 ^ bits) d h ≡ q → ⊥) → any e xs ≡ false
  any_off d e q [] lt a ne = refl
  any_off d e q (x ∷ xs) lt a ne = rw (ne_eqb (x.0 % (2 ^ bits) ^ e) (h % (2 ^ bits) ^ e) (λ s. ne (sym (agree_digit bits d e x.0 h lt s) ∙ a.0))) (any_off d e q xs lt a.1 ne)

  -- where there is an entry and all agree, one does
  any_true : (d : ℕ) (xs : List (Stored K V)) → 0 < length xs → AllAgree bits d h xs → any d xs ≡ true
  any_true d [] some a = absurd (omega arith)
  any_true d (x ∷ xs) some a = grind (arith, nat_tests)

  -- two lists that agree as far down as each other
  shared_same : (d : ℕ) (xs ys : List (Stored K V)) → ((e : ℕ) → d < e → any e xs ≡ any e ys) → (n e : ℕ) → d < e → levels xs e n ≡ levels ys e n
  shared_same d xs ys same zero e lt = refl
  shared_same d xs ys same (suc n) e lt = rw (same e lt, shared_same d xs ys same n (suc e) (omega arith)) refl

  module _ {S : Type 0} (eq : K → S → Bool) (k : S) (d p : ℕ) (dp : digit (2 ^ bits) d h ≡ p) where
    abbrev t : Stored K V → Bool
    t = matches eq k h

    any_above : (e low : ℕ) (cs : List (ℕ × Trie K V)) → d < e → AllChildren bits d low cs → p < low → any e (unmatched t (flat cs)) ≡ false
    any_above e low [] de a lt = refl
    any_above e low (c ∷ cs) de a lt =
        let le : low ≤ c.0 = a.0 in
        let ne : digit (2 ^ bits) d h ≡ c.0 → ⊥ = (λ s. let u : p ≡ c.0 = sym dp ∙ s in absurd (omega arith)) in
        rw (without_append t c.1.entries (flat cs))
        (any_append e (unmatched t c.1.entries) (unmatched t (flat cs)) (any_off d e c.0 (unmatched t c.1.entries) de (each_without (λ x. digit (2 ^ bits) d x.0 ≡ c.0) t c.1.entries a.1.0.digits) ne) ∙ any_above e (suc c.0) cs de a.1.1 (omega arith))

    any_under : (e low : ℕ) (cs : List (ℕ × Trie K V)) → d < e → AllChildren bits d low cs → any e (unmatched t (flat cs)) ≡ any e (unmatched t (under (item_at p cs)))
    any_under e low [] de a = refl
    any_under e low (c ∷ cs) de a = grind (arith, nat_tests, any_under e (suc c.0) cs de a.1.1, without_append t c.1.entries (flat cs), append_any e (unmatched t c.1.entries) (unmatched t (flat cs)), any_above e (suc c.0) cs de a.1.1, any_append e (unmatched t c.1.entries) (unmatched t (flat cs)), any_off d e c.0 (unmatched t c.1.entries) de (each_without (λ x. digit (2 ^ bits) d x.0 ≡ c.0) t c.1.entries a.1.0.digits))

    pub shared_under : (low n : ℕ) (cs : List (ℕ × Trie K V)) → AllChildren bits d low cs → 0 < length (unmatched t (flat cs)) → AllAgree bits d h (unmatched t (flat cs))
        → levels (unmatched t (flat cs)) d (suc n) ≡ suc (levels (unmatched t (under (item_at p cs))) (suc d) n)
    shared_under low n cs a some al =
        rw (any_true d (unmatched t (flat cs)) some al)
        (ap (λ m. suc m) (shared_same d (unmatched t (flat cs)) (unmatched t (under (item_at p cs))) (λ e de. any_under e low cs de a) n (suc d) (omega arith)))

-- hashes that agree at a depth share it
pub join_levels : (bits d g h : ℕ) → d < level_count bits → agree (2 ^ bits) d g h → levels_between bits d g h ≡ suc (levels_between bits (d + 1) g h)
join_levels bits d g h lt a = go (eqb_tells (g % (2 ^ bits) ^ d) (h % (2 ^ bits) ^ d))
  where
    left : level_count bits - d ≡ suc (level_count bits - (d + 1))
    left = omega arith

    up : suc d ≡ d + 1
    up = omega arith

    go : IsToldEqual (g % (2 ^ bits) ^ d) (h % (2 ^ bits) ^ d) → levels_between bits d g h ≡ suc (levels_between bits (d + 1) g h)
    go (inl s) = rw (left, s.0) (ap (λ n. suc (reach_within (2 ^ bits) h (g ∷ []) n (level_count bits - (d + 1)))) up)
    go (inr s) = absurd (s.1 a)

-- no more levels than there are
pub reach_most : (degree h : ℕ) (others : List ℕ) (d n : ℕ) → reach_within degree h others d n ≤ n
reach_most degree h others d zero = omega arith
reach_most degree h others d (suc n) = grind (arith, reach_most degree h others (suc d) n)
