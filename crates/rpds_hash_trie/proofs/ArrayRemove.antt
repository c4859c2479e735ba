-- What `without_child` and `first` rest on.
use Rattle.rpds_hash_trie.proofs.Words.{◌≡◌, ℕ, zero, suc, ◌+◌, ◌-◌, ◌*◌, ◌/◌, ◌%◌, ◌^◌, ◌<◌, ◌≤◌, List, [], ◌∷◌, None, length, take, drop, refl, sym, ap, ◌∙◌, arith, subst, bit_and, zip, slice_get, IsSome, remove, bit_at, pow-suc, false≢true, length-drop, bit_at-suc, bit_at_lowest, bit_at-lt, on_bit, item_at, without_at, first_item, items_of, length_places}
use Rattle.std.specs.Int.Count.{ones_in, ones}
use Rattle.std.proofs.lemmas.List.{length-append, length-take}
use Rattle.rpds_hash_trie.specs.Places.{places, placed}
use Rattle.rpds_hash_trie.proofs.ArrayGet.{place_bit, rank_is, none_at, eqb_same, eqb_apart_up}
use Rattle.rpds_hash_trie.proofs.ArraySet.{rank_lt}

-- the bit of a place that is set is part of the bitmap
pub bit_within : (p b : ℕ) → bit_at b p ≡ 1 → 2 ^ p ≤ b
bit_within zero b e = let d : b % 2 ≡ 1 = sym (bit_at_lowest b) ∙ e in omega arith
bit_within (suc p) b e =
    let ih : 2 ^ p ≤ b / 2 = bit_within p (b / 2) (sym (bit_at-suc b p) ∙ e) in
    let q : 2 ^ suc p ≡ 2 ^ p * 2 = pow-suc 2 p in omega arith

pub half_minus : (b p : ℕ) → 2 ^ p ≤ b / 2 → (b - 2 ^ suc p) / 2 ≡ b / 2 - 2 ^ p
half_minus b p h = let e : 2 ^ suc p ≡ 2 ^ p * 2 = pow-suc 2 p in omega arith

pub low_minus : (b p : ℕ) → 2 ^ p ≤ b / 2 → (b - 2 ^ suc p) % 2 ≡ b % 2
low_minus b p h = let e : 2 ^ suc p ≡ 2 ^ p * 2 = pow-suc 2 p in omega arith

ones_in_minus : (n p b : ℕ) → p < n → bit_at b p ≡ 1 → ones_in n (b - 2 ^ p) + 1 ≡ ones_in n b
unfolding ones_in
ones_in_minus zero p b h e = absurd (omega arith)
ones_in_minus (suc n) zero b h e =
    let d : b % 2 ≡ 1 = sym (bit_at_lowest b) ∙ e in
    let half : (b - 1) / 2 ≡ b / 2 = omega arith in
    let one : (b - 1) % 2 ≡ 0 = omega arith in
    rw (half, one, d) (omega arith)
ones_in_minus (suc n) (suc p) b h e =
    let up : bit_at (b / 2) p ≡ 1 = sym (bit_at-suc b p) ∙ e in
    let le = bit_within p (b / 2) up in
    let ih : ones_in n (b / 2 - 2 ^ p) + 1 ≡ ones_in n (b / 2) = ones_in_minus n p (b / 2) (omega arith) up in
    rw (half_minus b p le, low_minus b p le) (omega arith)

module _ {T : Type 0} where
  taken_here : (at k m : ℕ) (rest : List ℕ) (xs : List T) → k ≡ at → length xs ≡ 1 + m → zip rest (remove xs 0) ≡ without_at k (zip (at ∷ rest) xs)
  taken_here at k m rest [] e l = absurd (omega arith)
  taken_here at k m rest (y ∷ ys) e l = rw (eqb_same k at e) refl

  taken_step : (d at k m r : ℕ) (rest' rest : List ℕ) (xs : List T) → d < 2 → at < k → length xs ≡ d + m → ((ys : List T) → length ys ≡ m → zip rest' (remove ys r) ≡ without_at k (zip rest ys))
      → zip (on_bit d at rest') (remove xs (d + r)) ≡ without_at k (zip (on_bit d at rest) xs)
  taken_step zero at k m r rest' rest xs d h l ih = let e : 0 + r ≡ r = omega arith in rw e (ih xs (omega arith))
  taken_step (suc (suc d)) at k m r rest' rest xs lt h l ih = absurd (omega arith)
  taken_step (suc zero) at k m r rest' rest [] d h l ih = absurd (omega arith)
  taken_step (suc zero) at k m r rest' rest (y ∷ ys) d h l ih = let e : 1 + r ≡ suc r = omega arith in rw (e, eqb_apart_up k at h) (ap (λ q. (at, y) ∷ q) (ih ys (omega arith)))

  -- without the item at a place that is set
  taken_at : (n at b p k : ℕ) (xs : List T) → k ≡ at + p → p < n → length xs ≡ ones_in n b → bit_at b p ≡ 1 → zip (places n at (b - 2 ^ p)) (remove xs (ones_in p b)) ≡ without_at k (zip (places n at b) xs)
  unfolding places ones_in
  taken_at zero at b p k xs e lt l h = absurd (omega arith)
  taken_at (suc n) at b zero k xs e lt l h =
      let d : b % 2 ≡ 1 = sym (bit_at_lowest b) ∙ h in
      let half : (b - 1) / 2 ≡ b / 2 = omega arith in
      let one : (b - 1) % 2 ≡ 0 = omega arith in
      rw (half, one, d) (taken_here at k (ones_in n (b / 2)) (places n (suc at) (b / 2)) xs (omega arith) (omega arith))
  taken_at (suc n) at b (suc p) k xs e lt l h =
      let up : bit_at (b / 2) p ≡ 1 = sym (bit_at-suc b p) ∙ h in
      let le = bit_within p (b / 2) up in
      rw (half_minus b p le, low_minus b p le)
      (taken_step (b % 2) at k (ones_in n (b / 2)) (ones_in p (b / 2)) (places n (suc at) (b / 2 - 2 ^ p)) (places n (suc at) (b / 2)) xs (omega arith) (omega arith) l
      (λ ys l'. taken_at n (suc at) (b / 2) p k ys (omega arith) (omega arith) l' up))

  -- a place at which an item stands is set
  pub is_set : (b p : ℕ) (xs : List T) → IsSome (item_at p (placed b xs)) → bit_at b p ≡ 1
  unfolding placed
  is_set b p xs some = go (bit_at b p) (bit_at-lt b p) (none_at 64 0 b p p xs (omega arith))
    where
      go : (d : ℕ) → d < 2 → (d ≡ 0 → item_at p (zip (places 64 0 b) xs) ≡ None) → d ≡ 1
      go zero lt none = absurd (false≢true (subst IsSome (none refl) some))
      go (suc zero) lt none = refl
      go (suc (suc d)) lt none = absurd (omega arith)

  pub taken : (b p : ℕ) (xs : List T) → p < 64 → length xs ≡ ones_in 64 b → bit_at b p ≡ 1 → placed (b - 1 * 2 ^ p % 2 ^ 64) (remove xs (ones (bit_and b (1 * 2 ^ p % 2 ^ 64 - 1)))) ≡ without_at p (placed b xs)
  unfolding placed
  taken b p xs h l e = rw (rank_is b p h, place_bit p h) (taken_at 64 0 b p p xs (omega arith) h l e)

  pub taken_within : (b p : ℕ) (xs : List T) → p < 64 → length xs ≡ ones_in 64 b → bit_at b p ≡ 1 → ones (bit_and b (1 * 2 ^ p % 2 ^ 64 - 1)) < length xs
  taken_within b p xs h l e = rw (rank_is b p h, l) (rank_lt 64 p b h e)

  first_zip : (ks : List ℕ) (xs : List T) → length ks ≡ length xs → first_item (zip ks xs) ≡ slice_get xs 0
  first_zip [] [] e = refl
  first_zip [] (x ∷ xs) e = absurd (omega arith)
  first_zip (k ∷ ks) [] e = absurd (omega arith)
  first_zip (k ∷ ks) (x ∷ xs) e = refl

  pub first_placed : (b : ℕ) (xs : List T) → length xs ≡ ones_in 64 b → first_item (placed b xs) ≡ slice_get xs 0
  unfolding placed
  first_placed b xs l = first_zip (places 64 0 b) xs (length_places 64 0 b ∙ sym l)

pub bit_fits : (b p : ℕ) → p < 64 → bit_at b p ≡ 1 → 1 * 2 ^ p % 2 ^ 64 ≤ b
bit_fits b p h e = rw (place_bit p h) (bit_within p b e)

pub count_less : (b p n : ℕ) → p < 64 → bit_at b p ≡ 1 → n ≡ ones_in 64 b → n - 1 ≡ ones_in 64 (b - 1 * 2 ^ p % 2 ^ 64)
count_less b p n h e l = let less : ones_in 64 (b - 2 ^ p) + 1 ≡ ones_in 64 b = ones_in_minus 64 p b h e in rw (place_bit p h) (omega arith)

pub length_removed : {T : Type 0} (xs : List T) (i : ℕ) → i < length xs → length (remove xs i) ≡ length xs - 1
length_removed xs i h = let a = length-take i xs in let b = length-drop (suc i) xs in let c = length-append (take i xs) (drop (suc i) xs) in omega arith

items_zip : {T : Type 0} (ks : List ℕ) (xs : List T) → length ks ≡ length xs → items_of (zip ks xs) ≡ xs
items_zip [] [] e = refl
items_zip [] (x ∷ xs) e = absurd (omega arith)
items_zip (k ∷ ks) [] e = absurd (omega arith)
items_zip (k ∷ ks) (x ∷ xs) e = ap (λ l. x ∷ l) (items_zip ks xs (omega arith))

pub items_placed : {T : Type 0} (b : ℕ) (xs : List T) → length xs ≡ ones_in 64 b → items_of (placed b xs) ≡ xs
unfolding placed
items_placed b xs l = items_zip (places 64 0 b) xs (length_places 64 0 b ∙ sym l)
