-- What `set` and `clone` rest on.
use Rattle.rpds_hash_trie.proofs.Words.{◌≡◌, ℕ, zero, suc, ◌+◌, ◌-◌, ◌*◌, ◌/◌, ◌%◌, ◌^◌, ◌<◌, ◌≤◌, true, false, eqb, ltb, List, [], ◌∷◌, length, refl, sym, ap, ◌∙◌, arith, bit_and, zip, insert, AllZip, bit_at, pow-suc, nat_tests, bit_at-suc, bit_at_lowest, on_bit, put_at, length_places, AreClones}
use Rattle.std.proofs.Common.{bit_or}
use Rattle.std.proofs.Math.ListN.{set}
use Rattle.std.proofs.lemmas.List.{length-set}
use Rattle.std.proofs.lemmas.List.Edits.{length-insert}
use Rattle.std.specs.Int.Count.{ones_in, ones}
use Rattle.std.proofs.lemmas.Nat.{or_disjoint}
use Rattle.std.proofs.lemmas.Slice.Zip.{firsts-zip}
use Rattle.rpds_hash_trie.specs.Places.{places, placed, places_of}
use Rattle.rpds_hash_trie.proofs.ArrayGet.{place_bit, rank_is, bit_clear, bit_set, length_placed}

pub rank_le : (n p b : ℕ) → p ≤ n → ones_in p b ≤ ones_in n b
unfolding ones_in
rank_le n zero b h = omega arith
rank_le zero (suc p) b h = absurd (omega arith)
rank_le (suc n) (suc p) b h = let ih : ones_in p (b / 2) ≤ ones_in n (b / 2) = rank_le n p (b / 2) (omega arith) in omega arith

pub rank_lt : (n p b : ℕ) → p < n → bit_at b p ≡ 1 → ones_in p b < ones_in n b
unfolding ones_in
rank_lt zero p b h e = absurd (omega arith)
rank_lt (suc n) zero b h e = let d : b % 2 ≡ 1 = sym (bit_at_lowest b) ∙ e in omega arith
rank_lt (suc n) (suc p) b h e = let ih : ones_in p (b / 2) < ones_in n (b / 2) = rank_lt n p (b / 2) (omega arith) (sym (bit_at-suc b p) ∙ e) in omega arith

half_plus : (b p : ℕ) → (b + 2 ^ suc p) / 2 ≡ b / 2 + 2 ^ p
half_plus b p = let e : 2 ^ suc p ≡ 2 ^ p * 2 = pow-suc 2 p in omega arith

low_plus : (b p : ℕ) → (b + 2 ^ suc p) % 2 ≡ b % 2
low_plus b p = let e : 2 ^ suc p ≡ 2 ^ p * 2 = pow-suc 2 p in omega arith

ones_in_plus : (n p b : ℕ) → p < n → bit_at b p ≡ 0 → ones_in n (b + 2 ^ p) ≡ ones_in n b + 1
unfolding ones_in
ones_in_plus zero p b h e = absurd (omega arith)
ones_in_plus (suc n) zero b h e =
    let d : b % 2 ≡ 0 = sym (bit_at_lowest b) ∙ e in
    let half : (b + 1) / 2 ≡ b / 2 = omega arith in
    let one : (b + 1) % 2 ≡ 1 = omega arith in
    rw (half, one, d) (omega arith)
ones_in_plus (suc n) (suc p) b h e =
    let ih : ones_in n (b / 2 + 2 ^ p) ≡ ones_in n (b / 2) + 1 = ones_in_plus n p (b / 2) (omega arith) (sym (bit_at-suc b p) ∙ e) in
    rw (half_plus b p, low_plus b p, ih) (omega arith)

module _ {T : Type 0} (x : T) where
  put_here : (at k : ℕ) (y : T) (qs : List (ℕ × T)) → k ≡ at → put_at k x ((at, y) ∷ qs) ≡ (at, x) ∷ qs
  put_here at k y qs e =
      let l : ltb k at ≡ false = grind (arith, nat_tests) in
      let s : eqb k at ≡ true = grind (arith, nat_tests) in
      rw (l, s) (ap (λ k. (k, x) ∷ qs) e)

  put_past : (at k : ℕ) (y : T) (qs : List (ℕ × T)) → at < k → put_at k x ((at, y) ∷ qs) ≡ (at, y) ∷ put_at k x qs
  put_past at k y qs h =
      let l : ltb k at ≡ false = grind (arith, nat_tests) in
      let s : eqb k at ≡ false = grind (arith, nat_tests) in
      rw (l, s) refl

  put_before : (at k : ℕ) (y : T) (qs : List (ℕ × T)) → k < at → put_at k x ((at, y) ∷ qs) ≡ (k, x) ∷ (at, y) ∷ qs
  put_before at k y qs h = let l : ltb k at ≡ true = grind (arith, nat_tests) in rw l refl

  front_step : (d at k : ℕ) (rest : List ℕ) (xs : List T) → k < at → ((ys : List T) → put_at k x (zip rest ys) ≡ (k, x) ∷ zip rest ys) → put_at k x (zip (on_bit d at rest) xs) ≡ (k, x) ∷ zip (on_bit d at rest) xs
  front_step zero at k rest xs h ih = ih xs
  front_step (suc _) at k rest [] h ih = refl
  front_step (suc _) at k rest (y ∷ ys) h ih = put_before at k y (zip rest ys) h

  put_front : (n at b k : ℕ) (xs : List T) → k < at → put_at k x (zip (places n at b) xs) ≡ (k, x) ∷ zip (places n at b) xs
  unfolding places
  put_front zero at b k xs h = refl
  put_front (suc n) at b k xs h = front_step (b % 2) at k (places n (suc at) (b / 2)) xs h (λ ys. put_front n (suc at) (b / 2) k ys (omega arith))

  set_here : (d at k m : ℕ) (rest : List ℕ) (xs : List T) → d ≡ 1 → k ≡ at → length xs ≡ d + m → zip (on_bit d at rest) (set xs 0 x) ≡ put_at k x (zip (on_bit d at rest) xs)
  set_here zero at k m rest xs d e l = absurd (omega arith)
  set_here (suc d) at k m rest [] h e l = absurd (omega arith)
  set_here (suc d) at k m rest (y ∷ ys) h e l = sym (put_here at k y (zip rest ys) e)

  set_step : (d at k m r : ℕ) (rest : List ℕ) (xs : List T) → d < 2 → at < k → length xs ≡ d + m → ((ys : List T) → length ys ≡ m → zip rest (set ys r x) ≡ put_at k x (zip rest ys))
      → zip (on_bit d at rest) (set xs (d + r) x) ≡ put_at k x (zip (on_bit d at rest) xs)
  set_step zero at k m r rest xs d h l ih = let e : 0 + r ≡ r = omega arith in rw e (ih xs (omega arith))
  set_step (suc (suc d)) at k m r rest xs lt h l ih = absurd (omega arith)
  set_step (suc zero) at k m r rest [] d h l ih = absurd (omega arith)
  set_step (suc zero) at k m r rest (y ∷ ys) d h l ih = let e : 1 + r ≡ suc r = omega arith in rw e (ap (λ q. (at, y) ∷ q) (ih ys (omega arith)) ∙ sym (put_past at k y (zip rest ys) h))

  -- the item at a place that is set
  set_at : (n at b p k : ℕ) (xs : List T) → k ≡ at + p → p < n → length xs ≡ ones_in n b → bit_at b p ≡ 1 → zip (places n at b) (set xs (ones_in p b) x) ≡ put_at k x (zip (places n at b) xs)
  unfolding places ones_in
  set_at zero at b p k xs e lt l h = absurd (omega arith)
  set_at (suc n) at b zero k xs e lt l h = set_here (b % 2) at k (ones_in n (b / 2)) (places n (suc at) (b / 2)) xs (sym (bit_at_lowest b) ∙ h) (omega arith) l
  set_at (suc n) at b (suc p) k xs e lt l h = set_step (b % 2) at k (ones_in n (b / 2)) (ones_in p (b / 2)) (places n (suc at) (b / 2)) xs (omega arith) (omega arith) l
      (λ ys l'. set_at n (suc at) (b / 2) p k ys (omega arith) (omega arith) l' (sym (bit_at-suc b p) ∙ h))

  new_step : (d at k m r : ℕ) (rest' rest : List ℕ) (xs : List T) → d < 2 → at < k → length xs ≡ d + m → ((ys : List T) → length ys ≡ m → zip rest' (insert ys r x) ≡ put_at k x (zip rest ys))
      → zip (on_bit d at rest') (insert xs (d + r) x) ≡ put_at k x (zip (on_bit d at rest) xs)
  new_step zero at k m r rest' rest xs d h l ih = let e : 0 + r ≡ r = omega arith in rw e (ih xs (omega arith))
  new_step (suc (suc d)) at k m r rest' rest xs lt h l ih = absurd (omega arith)
  new_step (suc zero) at k m r rest' rest [] d h l ih = absurd (omega arith)
  new_step (suc zero) at k m r rest' rest (y ∷ ys) d h l ih = let e : 1 + r ≡ suc r = omega arith in rw e (ap (λ q. (at, y) ∷ q) (ih ys (omega arith)) ∙ sym (put_past at k y (zip rest ys) h))

  -- an item at a place that was not set
  new_at : (n at b p k : ℕ) (xs : List T) → k ≡ at + p → p < n → length xs ≡ ones_in n b → bit_at b p ≡ 0 → zip (places n at (b + 2 ^ p)) (insert xs (ones_in p b) x) ≡ put_at k x (zip (places n at b) xs)
  unfolding places ones_in
  new_at zero at b p k xs e lt l h = absurd (omega arith)
  new_at (suc n) at b zero k xs e lt l h =
      let d : b % 2 ≡ 0 = sym (bit_at_lowest b) ∙ h in
      let half : (b + 1) / 2 ≡ b / 2 = omega arith in
      let one : (b + 1) % 2 ≡ 1 = omega arith in
      let same : k ≡ at = omega arith in
      rw (half, one, d) (sym (put_front n (suc at) (b / 2) k xs (omega arith) ∙ ap (λ k. (k, x) ∷ zip (places n (suc at) (b / 2)) xs) same))
  new_at (suc n) at b (suc p) k xs e lt l h =
      rw (half_plus b p, low_plus b p)
      (new_step (b % 2) at k (ones_in n (b / 2)) (ones_in p (b / 2)) (places n (suc at) (b / 2 + 2 ^ p)) (places n (suc at) (b / 2)) xs (omega arith) (omega arith) l
      (λ ys l'. new_at n (suc at) (b / 2) p k ys (omega arith) (omega arith) l' (sym (bit_at-suc b p) ∙ h)))

-- the bitmap after a place was set
bitmap_plus : (b p : ℕ) → p < 64 → bit_and b (1 * 2 ^ p % 2 ^ 64) ≡ 0 → bit_or b (1 * 2 ^ p % 2 ^ 64) ≡ b + 2 ^ p
bitmap_plus b p h e = or_disjoint b (1 * 2 ^ p % 2 ^ 64) e ∙ ap (λ q. b + q) (place_bit p h)

pub insert_within : {T : Type 0} (b p : ℕ) (xs : List T) → p < 64 → length xs ≡ ones_in 64 b → ones (bit_and b (1 * 2 ^ p % 2 ^ 64 - 1)) ≤ length xs
insert_within b p xs h l = rw (rank_is b p h, l) (rank_le 64 p b (omega arith))

pub set_within : {T : Type 0} (b p : ℕ) (xs : List T) → p < 64 → length xs ≡ ones_in 64 b → (bit_and b (1 * 2 ^ p % 2 ^ 64) ≡ 0 → ⊥) → ones (bit_and b (1 * 2 ^ p % 2 ^ 64 - 1)) < length xs
set_within b p xs h l e = rw (rank_is b p h, l) (rank_lt 64 p b h (bit_set b p h e))

pub count_more : (b p n : ℕ) → p < 64 → bit_and b (1 * 2 ^ p % 2 ^ 64) ≡ 0 → n ≡ ones_in 64 b → n + 1 ≡ ones_in 64 (bit_or b (1 * 2 ^ p % 2 ^ 64))
count_more b p n h e l = let more : ones_in 64 (b + 2 ^ p) ≡ ones_in 64 b + 1 = ones_in_plus 64 p b h (bit_clear b p h e) in ap (λ m. m + 1) l ∙ sym (ap (ones_in 64) (bitmap_plus b p h e) ∙ more)

pub set_new : {T : Type 0} (x : T) (b p : ℕ) (xs : List T) → p < 64 → length xs ≡ ones_in 64 b → bit_and b (1 * 2 ^ p % 2 ^ 64) ≡ 0
    → placed (bit_or b (1 * 2 ^ p % 2 ^ 64)) (insert xs (ones (bit_and b (1 * 2 ^ p % 2 ^ 64 - 1))) x) ≡ put_at p x (placed b xs)
unfolding placed
set_new x b p xs h l e = rw (rank_is b p h, bitmap_plus b p h e) (new_at x 64 0 b p p xs (omega arith) h l (bit_clear b p h e))

pub set_old : {T : Type 0} (x : T) (b p : ℕ) (xs : List T) → p < 64 → length xs ≡ ones_in 64 b → (bit_and b (1 * 2 ^ p % 2 ^ 64) ≡ 0 → ⊥)
    → placed b (set xs (ones (bit_and b (1 * 2 ^ p % 2 ^ 64 - 1))) x) ≡ put_at p x (placed b xs)
unfolding placed
set_old x b p xs h l e = rw (rank_is b p h) (set_at x 64 0 b p p xs (omega arith) h l (bit_set b p h e))

clones_zip : {T : Type 0} (C : T → T → Type 0) (ks : List ℕ) (xs ys : List T) → AllZip C xs ys → AreClones C (zip ks xs) (zip ks ys)
clones_zip C [] xs ys h = tt
clones_zip C (k ∷ ks) [] [] h = tt
clones_zip C (k ∷ ks) [] (y ∷ ys) h = absurd h
clones_zip C (k ∷ ks) (x ∷ xs) [] h = absurd h
clones_zip C (k ∷ ks) (x ∷ xs) (y ∷ ys) h = ((refl, h.0), clones_zip C ks xs ys h.1)

pub clones_placed : {T : Type 0} (C : T → T → Type 0) (b : ℕ) (xs ys : List T) → AllZip C xs ys → AreClones C (placed b xs) (placed b ys)
unfolding placed
clones_placed C b xs ys h = clones_zip C (places 64 0 b) xs ys h

pub length_inserted : {T : Type 0} (xs : List T) (i : ℕ) (x : T) → i ≤ length xs → length (insert xs i x) ≡ length xs + 1
length_inserted xs i x h = let l = length-insert xs i x h in omega arith

pub length_set : {T : Type 0} (xs : List T) (i : ℕ) (x : T) → length (set xs i x) ≡ length xs
length_set xs i x = length-set xs i x

pub length_clones : {T : Type 0} (C : T → T → Type 0) (xs ys : List T) → AllZip C xs ys → length ys ≡ length xs
length_clones C [] [] h = refl
length_clones C [] (y ∷ ys) h = absurd h
length_clones C (x ∷ xs) [] h = absurd h
length_clones C (x ∷ xs) (y ∷ ys) h = ap (λ n. suc n) (length_clones C xs ys h.1)

-- other items at the same places
module _ {T U : Type 0} (b : ℕ) (xs : List T) (ys : List U) (held : length xs ≡ ones_in 64 b) (as_many : length ys ≡ length (placed b xs)) where
  pub others_held : length ys ≡ ones_in 64 b
  others_held = as_many ∙ length_placed b xs held ∙ held

  pub others_placed : placed b ys ≡ zip (places_of (placed b xs)) ys
  unfolding placed
  others_placed = ap (λ ps. zip ps ys) (sym (firsts-zip (places 64 0 b) xs (held ∙ sym (length_places 64 0 b))))
