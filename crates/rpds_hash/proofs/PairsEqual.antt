-- Look-ups decide the equality of two maps.
use Rattle.rpds_hash.proofs.Words.{slice_get, IsEquivalence, option_eq, option_map, list_all, length_permutation, find, as_map, pairs_equal}
use Rattle.std.specs.Prelude.{◌≡◌, ℕ, zero, suc, ◌<◌, Bool, true, false, ◌&&◌, cond, List, [], ◌∷◌, length, Some}
use mathlib.Core.Path.{refl, sym, ap, ◌∙◌, subst}
use mathlib.Core.Bool.{true≢false}
use native.Mathlib.Omega.{arith}
use Rattle.std.specs.Cmp.{first_so, second_so}
use Rattle.std.specs.List.{IsDistinct}
use Rattle.std_collections.specs.Map.{keys_of, lookup}
use Rattle.std_collections.proofs.Entries.{by_answer}
use Rattle.std_collections.proofs.HashMapEq.{key_at, own_value, unequal_at, unequal_len, equal_by_keys}
use Rattle.rpds_hash_trie.proofs.KeyLaws.{Alike, find_at, permuted_alike}

module _ {X : Type 0} (p : X → Bool) where
  all_at : (xs : List X) (i : ℕ) (x : X) → list_all p xs ≡ true → slice_get xs i ≡ Some x → p x ≡ true
  all_at [] i x all e = absurd (omega (arith, none_at i x e))
    where
      none_at : (i : ℕ) (x : X) → slice_get [] i ≡ Some x → ⊥
      none_at i x e = cc
  all_at (y ∷ xs) zero x all e = let same : y ≡ x = cc in subst (λ z. p z ≡ true) same (first_so (p y) _ all)
  all_at (y ∷ xs) (suc i) x all e = all_at xs i x (second_so (p y) _ all) e

  -- where one fails
  record Fails (xs : List X) : Type 0 where
    place : ℕ
    item : X
    within : place < length xs
    at : slice_get xs place ≡ Some item
    fails : p item ≡ false

  fails_at : (xs : List X) → list_all p xs ≡ false → Fails xs
  fails_at [] e = absurd (true≢false e)
  fails_at (x ∷ xs) e = by (p x) refl (fails_at xs)
    where
      by : (b : Bool) → p x ≡ b → (list_all p xs ≡ false → Fails xs) → Fails (x ∷ xs)
      by false wrong later = record { place = 0; item = x; within = omega arith; at = refl; fails = wrong }
      by true right later =
          let r = later (sym (ap (λ b. b && list_all p xs) right) ∙ e) in
          record { place = suc r.place; item = r.item; within = omega (arith, r.within); at = r.at; fails = r.fails }

  found_at : (xs : List X) (i : ℕ) → i < length xs → (x : X) × (slice_get xs i ≡ Some x)
  found_at [] i lt = absurd (omega arith)
  found_at (x ∷ xs) zero lt = (x, refl)
  found_at (x ∷ xs) (suc i) lt = found_at xs i (omega arith)

-- a walk that comes to an item which fails
pub stops : {X : Type 0} (p : X → Bool) (rest later : List X) (x : X) → rest ≡ x ∷ later → p x ≡ false → false ≡ list_all p rest
stops p rest later x split fails = sym (ap (list_all p) split ∙ ap (λ b. b && list_all p later) fails)

module _ {K X : Type 0} (eq : K → K → Bool) (E : X → X → Bool) where
  -- the list has a pair of this key, and its value is equal
  abbrev pub is_found : List (K × X) → K × X → Bool
  is_found fs p = option_eq E (Some p.1) (lookup (eq p.0) fs)

module _ {K X : Type 0} (eq : K → K → Bool) (o : IsEquivalence eq) where
  mapped : (k : K) (p : K × X) (ps : List (K × X)) → option_map (λ q. q.1) (find eq k ps) ≡ lookup (eq k) ps → (b : Bool)
      → option_map (λ q. q.1) (cond b (Some p) (find eq k ps)) ≡ cond b (Some p.1) (lookup (eq k) ps)
  mapped k p ps others true = refl
  mapped k p ps others false = others

  -- a key's value, by the pair that is found
  pub value_found : (k : K) (ps : List (K × X)) → option_map (λ q. q.1) (find eq k ps) ≡ lookup (eq k) ps
  value_found k [] = refl
  value_found k (p ∷ ps) = ap (λ b. option_map (λ q. q.1) (cond b (Some p) (find eq k ps))) (o.symm p.0 k) ∙ mapped k p ps (value_found k ps) (eq k p.0)

module _ {K X : Type 0} (eq : K → K → Bool) (o : IsEquivalence eq) (E : X → X → Bool) where
  -- of two lengths
  pub differ_by_len : (es fs : List (K × X)) → IsDistinct eq (keys_of es) → IsDistinct eq (keys_of fs) → (length es ≡ length fs → ⊥) → pairs_equal eq E es fs ≡ false
  differ_by_len es fs des dfs differ = sym (unequal_len eq o E (as_map es) (as_map fs) des dfs differ)

  -- of one length: each pair of the first is found in the second
  pub equal_by_finds : (es fs : List (K × X)) → IsDistinct eq (keys_of es) → IsDistinct eq (keys_of fs) → length es ≡ length fs → list_all (is_found eq E fs) es ≡ pairs_equal eq E es fs
  equal_by_finds es fs des dfs len =
      by_answer (list_all (is_found eq E fs) es)
      (λ all. all ∙ equal_by_keys eq o E (as_map es) (as_map fs) des dfs len (λ i lt d.
      let f = found_at (is_found eq E fs) es i lt in
      let mine = own_value eq o es i f.0.0 f.0.1 f.1 des lt in
      let agree = λ (k : K). option_eq E (lookup (eq k) es) (lookup (eq k) fs) ≡ true in
      let here : agree f.0.0 = ap (λ r. option_eq E r (lookup (eq f.0.0) fs)) mine ∙ all_at (is_found eq E fs) es i f.0 all f.1 in
      subst agree (sym (key_at eq o es i f.0.0 f.0.1 f.1 d)) here))
      (λ some.
      let f = fails_at (is_found eq E fs) es some in
      let mine = own_value eq o es f.place f.item.0 f.item.1 f.at des f.within in
      some ∙ unequal_at eq o E (as_map es) (as_map fs) f.item.0 (ap (λ r. option_eq E r (lookup (eq f.item.0) fs)) mine ∙ f.fails))

  all_by : (test : K × X → Bool) (es : List (K × X)) → ((i : ℕ) (p : K × X) → slice_get es i ≡ Some p → test p ≡ true) → list_all test es ≡ true
  all_by test [] all = refl
  all_by test (e ∷ es) all = λ i. all 0 e refl i && all_by test es (λ i p at. all (suc i) p at) i

  -- where each key finds the same pair
  pub equal_alike : ((x : X) → E x x ≡ true) → (es fs : List (K × X)) → IsDistinct eq (keys_of es) → IsDistinct eq (keys_of fs) → Alike o es fs → pairs_equal eq E es fs ≡ true
  equal_alike same es fs des dfs alike =
      let len : length es ≡ length fs = sym (length_permutation es fs (permuted_alike o es fs des dfs alike)) in
      let here = λ (i : ℕ) (p : K × X) (at : slice_get es i ≡ Some p).
      let mine : find eq p.0 fs ≡ Some p = sym (alike p.0) ∙ find_at o es i p des at in
      ap (option_eq E (Some p.1)) (sym (value_found eq o p.0 fs) ∙ ap (option_map (λ q. q.1)) mine) ∙ same p.1 in
      sym (equal_by_finds es fs des dfs len) ∙ all_by (is_found eq E fs) es here
