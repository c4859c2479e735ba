-- What `pop` and `remove` rest on.
use Rattle.rpds_hash_trie.proofs.Words.{◌≡◌, ℕ, zero, suc, ◌+◌, ◌-◌, ◌*◌, ◌/◌, ◌%◌, ◌^◌, ◌<◌, ◌≤◌, Bool, true, false, cond, eqb, List, [], ◌∷◌, ◌++◌, Some, None, length, take, refl, sym, ap, ◌∙◌, arith, zip, is_none, slice_get, remove, false≢true, pow-suc, on_bit, item_at, without_at, length_places}
use Rattle.std.proofs.Common.{Option}
use Rattle.std.specs.Int.Count.{ones_in}
use Rattle.std.proofs.lemmas.List.{length-append}
use Rattle.rpds_hash_trie.specs.Places.{places, placed, last_item}
use Rattle.rpds_hash_trie.proofs.ArrayGet.{place_bit, ones_in_zero}
use Rattle.rpds_hash_trie.proofs.ArrayRemove.{half_minus, low_minus}

places_none : (n at : ℕ) → places n at 0 ≡ []
unfolding places
places_none zero at = refl
places_none (suc n) at = places_none n (suc at)

top_step : (d at : ℕ) (ps qs ks : List ℕ) → ps ≡ qs ++ ks → on_bit d at ps ≡ on_bit d at qs ++ ks
top_step zero at ps qs ks e = e
top_step (suc _) at ps qs ks e = ap (λ l. at ∷ l) e

-- the highest bit gives the last place
places_top : (n at b p k : ℕ) → k ≡ at + p → p < n → 2 ^ p ≤ b → b < 2 * 2 ^ p → places n at b ≡ places n at (b - 2 ^ p) ++ k ∷ []
unfolding places
places_top zero at b p k e lt low high = absurd (omega arith)
places_top (suc n) at b zero k e lt low high =
    let one : b ≡ 1 = omega arith in
    let here : k ≡ at = omega arith in
    rw (one, here, places_none n (suc at)) refl
places_top (suc n) at b (suc p) k e lt low high =
    let twice : 2 ^ suc p ≡ 2 ^ p * 2 = pow-suc 2 p in
    let le : 2 ^ p ≤ b / 2 = omega arith in
    let below : b / 2 < 2 * 2 ^ p = omega arith in
    rw (half_minus b p le, low_minus b p le)
    (top_step (b % 2) at (places n (suc at) (b / 2)) (places n (suc at) (b / 2 - 2 ^ p)) (k ∷ []) (places_top n (suc at) (b / 2) p k (omega arith) (omega arith) le below))

-- a bit is set where there is an item
pub some_bit : (b n : ℕ) → n ≡ ones_in 64 b → 0 < n → 0 < b
some_bit zero n e h = let none = ones_in_zero 64 in absurd (omega arith)
some_bit (suc b) n e h = omega arith

module _ {T : Type 0} where
  zip_more : (ks : List ℕ) (xs : List T) (k : ℕ) (x : T) → length ks ≡ length xs → zip (ks ++ k ∷ []) (xs ++ x ∷ []) ≡ zip ks xs ++ (k, x) ∷ []
  zip_more [] [] k x e = refl
  zip_more [] (y ∷ ys) k x e = absurd (omega arith)
  zip_more (j ∷ ks) [] k x e = absurd (omega arith)
  zip_more (j ∷ ks) (y ∷ ys) k x e = ap (λ l. (j, y) ∷ l) (zip_more ks ys k x (omega arith))

  fewer : (b p : ℕ) (xs ys : List T) (x : T) → xs ≡ ys ++ x ∷ [] → length xs ≡ ones_in 64 b → p < 64 → 2 ^ p ≤ b → b < 2 * 2 ^ p → length (places 64 0 (b - 2 ^ p)) ≡ length ys
  fewer b p xs ys x e l h low high =
      let top = places_top 64 0 b p p (omega arith) h low high in
      let all = length_places 64 0 b in
      let more = length-append (places 64 0 (b - 2 ^ p)) (p ∷ []) in
      let items = length-append ys (x ∷ []) in
      omega (arith, ap length top, ap length e)

  pub count_popped : (b p : ℕ) (xs ys : List T) (x : T) → xs ≡ ys ++ x ∷ [] → length xs ≡ ones_in 64 b → p < 64 → 2 ^ p ≤ b → b < 2 * 2 ^ p → length ys ≡ ones_in 64 (b - 1 * 2 ^ p % 2 ^ 64)
  count_popped b p xs ys x e l h low high = rw (place_bit p h) (sym (fewer b p xs ys x e l h low high) ∙ length_places 64 0 (b - 2 ^ p))

  -- the last item is at the place of the highest bit
  pub popped : (b p : ℕ) (xs ys : List T) (x : T) → xs ≡ ys ++ x ∷ [] → length xs ≡ ones_in 64 b → p < 64 → 2 ^ p ≤ b → b < 2 * 2 ^ p → placed b xs ≡ placed (b - 1 * 2 ^ p % 2 ^ 64) ys ++ (p, x) ∷ []
  unfolding placed
  popped b p xs ys x e l h low high =
      rw (place_bit p h, places_top 64 0 b p p (omega arith) h low high, e) (zip_more (places 64 0 (b - 2 ^ p)) ys p x (fewer b p xs ys x e l h low high))

  pub last_more : (zs : List (ℕ × T)) (k : ℕ) (x : T) → last_item (zs ++ (k, x) ∷ []) ≡ Some x
  last_more [] k x = refl
  last_more (z ∷ []) k x = refl
  last_more (z ∷ y ∷ zs) k x = last_more (y ∷ zs) k x

  pub front_more : (zs : List (ℕ × T)) (z : ℕ × T) → take (length (zs ++ z ∷ []) - 1) (zs ++ z ∷ []) ≡ zs
  front_more zs z = let l = length-append zs (z ∷ []) in let e : length (zs ++ z ∷ []) - 1 ≡ length zs = omega arith in rw e (front zs)
    where
      front : (ws : List (ℕ × T)) → take (length ws) (ws ++ z ∷ []) ≡ ws
      front [] = refl
      front (w ∷ ws) = ap (λ l. w ∷ l) (front ws)

  absent_step : (t : Bool) (q : ℕ × T) (qs gone : List (ℕ × T)) (o : Option T) → (o ≡ None → gone ≡ qs) → cond t (Some q.1) o ≡ None → cond t qs (q ∷ gone) ≡ q ∷ qs
  absent_step true q qs gone o ih e = absurd (false≢true (ap is_none e))
  absent_step false q qs gone o ih e = ap (λ l. q ∷ l) (ih e)

  -- nothing is lost where the place has no item
  pub absent_stays : (p : ℕ) (qs : List (ℕ × T)) → item_at p qs ≡ None → without_at p qs ≡ qs
  absent_stays p [] e = refl
  absent_stays p (q ∷ qs) e = absent_step (eqb p q.0) q qs (without_at p qs) (item_at p qs) (absent_stays p qs) e

  pub other_of_two : (xs : List T) (at : ℕ) → length xs ≡ 2 → at < length xs → slice_get xs (1 - at) ≡ slice_get (remove xs at) 0
  other_of_two [] at e h = absurd (omega arith)
  other_of_two (x ∷ []) at e h = absurd (omega arith)
  other_of_two (x ∷ y ∷ []) zero e h = refl
  other_of_two (x ∷ y ∷ []) (suc zero) e h = refl
  other_of_two (x ∷ y ∷ []) (suc (suc at)) e h = absurd (omega arith)
  other_of_two (x ∷ y ∷ z ∷ xs) at e h = absurd (omega arith)
