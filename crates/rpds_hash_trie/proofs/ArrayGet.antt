-- An item's index counts the places below its own.
use Rattle.rpds_hash_trie.proofs.Words.{◌≡◌, ℕ, zero, suc, ◌+◌, ◌-◌, ◌*◌, ◌/◌, ◌%◌, ◌^◌, ◌<◌, true, false, eqb, List, [], ◌∷◌, None, length, refl, sym, ap, ◌∙◌, arith, bit_and, add-one, zip, slice_get, bit_at, and_mask, pow_pos, pow-lt, mod-eq_of_lt, suc-mul, zero-mul, nat_tests, bit_at-suc, bit_at_lowest, bit_at-lt, on_bit, item_at, length_places}
use Rattle.std.proofs.Common.{add_comm}
use Rattle.std.specs.Int.Count.{ones_in, ones, ones_cat}
use Rattle.std.proofs.lemmas.Nat.{mod-pow-add}
use Rattle.std.proofs.lemmas.Nat.Bits.{and_pow}
use Rattle.rpds_hash_trie.specs.Places.{places, placed}

eqb_apart : (p q : ℕ) → p < q → eqb p q ≡ false
eqb_apart p q h = grind (arith, nat_tests)

pub eqb_apart_up : (p q : ℕ) → q < p → eqb p q ≡ false
eqb_apart_up p q h = grind (arith, nat_tests)

pub eqb_same : (p q : ℕ) → p ≡ q → eqb p q ≡ true
eqb_same p q h = grind (arith, nat_tests)

none_step : {T : Type 0} (d at k : ℕ) (rest : List ℕ) (xs : List T) → k < at → ((ys : List T) → item_at k (zip rest ys) ≡ None) → item_at k (zip (on_bit d at rest) xs) ≡ None
none_step zero at k rest xs h ih = ih xs
none_step (suc _) at k rest [] h ih = refl
none_step (suc _) at k rest (x ∷ xs) h ih = rw (eqb_apart k at h) (ih xs)

-- no place below at is set
pub none_below : {T : Type 0} (n at b k : ℕ) (xs : List T) → k < at → item_at k (zip (places n at b) xs) ≡ None
unfolding places
none_below zero at b k xs h = refl
none_below (suc n) at b k xs h = none_step (b % 2) at k (places n (suc at) (b / 2)) xs h (λ ys. none_below n (suc at) (b / 2) k ys (omega arith))

skip_step : {T : Type 0} (d at k : ℕ) (rest : List ℕ) (xs : List T) → at < k → ((ys : List T) → item_at k (zip rest ys) ≡ None) → item_at k (zip (on_bit d at rest) xs) ≡ None
skip_step zero at k rest xs h ih = ih xs
skip_step (suc _) at k rest [] h ih = refl
skip_step (suc _) at k rest (x ∷ xs) h ih = rw (eqb_apart_up k at h) (ih xs)

-- no item stands at a place that is not set
pub none_at : {T : Type 0} (n at b p k : ℕ) (xs : List T) → k ≡ at + p → bit_at b p ≡ 0 → item_at k (zip (places n at b) xs) ≡ None
unfolding places
none_at zero at b p k xs e h = refl
none_at (suc n) at b zero k xs e h = rw (sym (bit_at_lowest b) ∙ h) (none_below n (suc at) (b / 2) k xs (omega arith))
none_at (suc n) at b (suc p) k xs e h = skip_step (b % 2) at k (places n (suc at) (b / 2)) xs (omega arith) (λ ys. none_at n (suc at) (b / 2) p k ys (omega arith) (sym (bit_at-suc b p) ∙ h))

got_here : {T : Type 0} (d at k m : ℕ) (rest : List ℕ) (xs : List T) → d ≡ 1 → k ≡ at → length xs ≡ d + m → item_at k (zip (on_bit d at rest) xs) ≡ slice_get xs 0
got_here zero at k m rest xs d e l = absurd (omega arith)
got_here (suc d) at k m rest [] h e l = absurd (omega arith)
got_here (suc d) at k m rest (x ∷ xs) h e l = rw (eqb_same k at e) refl

got_step : {T : Type 0} (d at k m r : ℕ) (rest : List ℕ) (xs : List T) → d < 2 → at < k → length xs ≡ d + m → ((ys : List T) → length ys ≡ m → item_at k (zip rest ys) ≡ slice_get ys r)
    → item_at k (zip (on_bit d at rest) xs) ≡ slice_get xs (d + r)
got_step zero at k m r rest xs d h l ih = let e : 0 + r ≡ r = omega arith in rw e (ih xs (omega arith))
got_step (suc (suc d)) at k m r rest xs lt h l ih = absurd (omega arith)
got_step (suc zero) at k m r rest [] d h l ih = absurd (omega arith)
got_step (suc zero) at k m r rest (x ∷ xs) d h l ih = let e : 1 + r ≡ suc r = omega arith in rw (e, eqb_apart_up k at h) (ih xs (omega arith))

-- the item at a place that is set
pub got_at : {T : Type 0} (n at b p k : ℕ) (xs : List T) → k ≡ at + p → p < n → length xs ≡ ones_in n b → bit_at b p ≡ 1 → item_at k (zip (places n at b) xs) ≡ slice_get xs (ones_in p b)
unfolding places ones_in
got_at zero at b p k xs e lt l h = absurd (omega arith)
got_at (suc n) at b zero k xs e lt l h = got_here (b % 2) at k (ones_in n (b / 2)) (places n (suc at) (b / 2)) xs (sym (bit_at_lowest b) ∙ h) (omega arith) l
got_at (suc n) at b (suc p) k xs e lt l h = got_step (b % 2) at k (ones_in n (b / 2)) (ones_in p (b / 2)) (places n (suc at) (b / 2)) xs (omega arith) (omega arith) l
    (λ ys l'. got_at n (suc at) (b / 2) p k ys (omega arith) (omega arith) l' (sym (bit_at-suc b p) ∙ h))

one_digit : (d : ℕ) → d < 2 → ones d ≡ d
unfolding ones ones_in
one_digit zero h = refl
one_digit (suc zero) h = refl
one_digit (suc (suc d)) h = absurd (omega arith)

-- the set digits among the p lowest
pub ones_low : (p n : ℕ) → ones (n % 2 ^ p) ≡ ones_in p n
unfolding ones ones_in
ones_low zero n = let e : n % 1 ≡ 0 = omega arith in ap ones e
ones_low (suc p) n =
    let lt : n % 2 < 2 = omega arith in
    let cat : ones ((n / 2 ^ 1 % 2 ^ p) * 2 ^ 1 + n % 2 ^ 1) ≡ ones (n / 2 ^ 1 % 2 ^ p) + ones (n % 2 ^ 1) = ones_cat 1 (n / 2 ^ 1 % 2 ^ p) (n % 2 ^ 1) lt in
    let one : ones (n % 2) ≡ n % 2 = one_digit (n % 2) lt in
    let split : n % 2 ^ (p + 1) ≡ (n / 2 ^ 1 % 2 ^ p) * 2 ^ 1 + n % 2 ^ 1 = mod-pow-add n p 1 in
    let name : n % 2 ^ suc p ≡ n % 2 ^ (p + 1) = ap (λ k. n % 2 ^ k) (sym (add-one p)) in
    let rest : ones (n / 2 % 2 ^ p) ≡ ones_in p (n / 2) = ones_low p (n / 2) in
    ap ones (name ∙ split) ∙ cat ∙ ap (λ r. ones (n / 2 % 2 ^ p) + r) one ∙ ap (λ r. r + n % 2) rest ∙ add_comm (ones_in p (n / 2)) (n % 2)

-- the bit of a place as the program writes it
pub place_bit : (p : ℕ) → p < 64 → 1 * 2 ^ p % 2 ^ 64 ≡ 2 ^ p
place_bit p h = let lt : 2 ^ p < 2 ^ 64 = pow-lt h in let one : 1 * 2 ^ p ≡ 2 ^ p = omega arith in rw one (mod-eq_of_lt lt)

pub rank_is : (b p : ℕ) → p < 64 → ones (bit_and b (1 * 2 ^ p % 2 ^ 64 - 1)) ≡ ones_in p b
rank_is b p h = rw (place_bit p h, and_mask b p) (ones_low p b)

pub bit_clear : (b p : ℕ) → p < 64 → bit_and b (1 * 2 ^ p % 2 ^ 64) ≡ 0 → bit_at b p ≡ 0
bit_clear b p h e = go (bit_at b p) (sym (and_pow b p) ∙ ap (bit_and b) (sym (place_bit p h)) ∙ e)
  where
    go : (d : ℕ) → d * 2 ^ p ≡ 0 → d ≡ 0
    go zero e = refl
    go (suc d) e = let q : 0 < 2 ^ p = pow_pos p in absurd (grind (arith, suc-mul d (2 ^ p)))

pub bit_set : (b p : ℕ) → p < 64 → (bit_and b (1 * 2 ^ p % 2 ^ 64) ≡ 0 → ⊥) → bit_at b p ≡ 1
bit_set b p h e = go (bit_at b p) (bit_at-lt b p) (λ z. e (ap (bit_and b) (place_bit p h) ∙ and_pow b p ∙ ap (λ d. d * 2 ^ p) z ∙ zero-mul (2 ^ p)))
  where
    go : (d : ℕ) → d < 2 → (d ≡ 0 → ⊥) → d ≡ 1
    go d lt z = omega arith

pub get_none : {T : Type 0} (b : ℕ) (xs : List T) (p : ℕ) → p < 64 → bit_and b (1 * 2 ^ p % 2 ^ 64) ≡ 0 → item_at p (placed b xs) ≡ None
unfolding placed
get_none b xs p h e = none_at 64 0 b p p xs (omega arith) (bit_clear b p h e)

pub get_some : {T : Type 0} (b : ℕ) (xs : List T) (p : ℕ) → p < 64 → length xs ≡ ones_in 64 b → (bit_and b (1 * 2 ^ p % 2 ^ 64) ≡ 0 → ⊥) → item_at p (placed b xs) ≡ slice_get xs (ones (bit_and b (1 * 2 ^ p % 2 ^ 64 - 1)))
unfolding placed
get_some b xs p h l e = got_at 64 0 b p p xs (omega arith) h l (bit_set b p h e) ∙ ap (slice_get xs) (sym (rank_is b p h))

-- as many places as items
pub length_placed : {T : Type 0} (b : ℕ) (xs : List T) → length xs ≡ ones_in 64 b → length (placed b xs) ≡ length xs
unfolding placed
length_placed b xs l = length_zip (places 64 0 b) xs (l ∙ sym (length_places 64 0 b))
  where
    length_zip : {T : Type 0} (ks : List ℕ) (ys : List T) → length ys ≡ length ks → length (zip ks ys) ≡ length ys
    length_zip [] [] e = refl
    length_zip [] (y ∷ ys) e = absurd (omega arith)
    length_zip (k ∷ ks) [] e = refl
    length_zip (k ∷ ks) (y ∷ ys) e = ap suc (length_zip ks ys (omega arith))

pub placed_none : {T : Type 0} (xs : List T) → length xs ≡ 0 → (b : ℕ) → placed b xs ≡ []
unfolding placed
placed_none [] e b = none (places 64 0 b)
  where
    none : {T : Type 0} (ks : List ℕ) → zip {X = T} ks [] ≡ []
    none [] = refl
    none (k ∷ ks) = refl
placed_none (x ∷ xs) e b = absurd (omega arith)

pub ones_in_zero : (n : ℕ) → ones_in n 0 ≡ 0
unfolding ones_in
ones_in_zero zero = refl
ones_in_zero (suc n) = rw (ones_in_zero n) refl
