-- A chain turned round in its own cells.
use Rattle.std.proofs.Common.{◌≡◌, ℕ, zero, suc, ◌+◌, ◌-◌, ◌/◌, ◌<◌, ◌≤◌, List, [], ◌∷◌, ◌++◌, length, take, drop, reverse, set, get_or, refl, ap, sym, ◌∙◌, append_assoc, arith}
use Rattle.std.proofs.lemmas.List.{length-reverse, length-take-le, length-append, length-set, reverse-append, set_at, get_or_at, set-set, set-get_or, take_more, take_more_set, drop_more, drop-set-lt, drop_at, take_at}
use Rattle.std.specs.declared.rc.Rc.{Rc}
use Rattle.rpds_core.specs.Rows.{behind}
use Rattle.rpds_list.specs.Turned.{IsTurned, IsSwapped}

module _ {X : Type 0} where
  -- what the pointer at a place points to
  pub get_behind : {A : Type 0} (rcs : List (Rc X A)) (i : ℕ) (rc : Rc X A) → rc ≡ get_or rcs i rc → rc.value ≡ get_or (behind rcs) i rc.value
  get_behind [] i rc e = refl
  get_behind (r ∷ rcs) zero rc e = ap (λ z. z.value) e
  get_behind (r ∷ rcs) (suc i) rc e = get_behind rcs i rc e

  -- two that are swapped twice are as they were
  swapped_back : (held : List X) (at : ℕ) (x : X) → set (set held at x) at (get_or held at x) ≡ held
  swapped_back held at x = set-set held at x (get_or held at x) ∙ set-get_or held at x

  swapped_back_item : (held : List X) (at : ℕ) (x : X) → get_or (set held at x) at (get_or held at x) ≡ x
  swapped_back_item [] at x = refl
  swapped_back_item (h ∷ held) zero x = refl
  swapped_back_item (h ∷ held) (suc at) x = swapped_back_item held at x

  -- an item of `turned` beside the cells, where another one of `held` belongs
  into_front : (held turned : List X) (at : ℕ) (x : X) → at < length held → at < length turned
      → (set (take (at + 1) turned ++ drop (at + 1) held) at (get_or held at x) ≡ take at turned ++ drop at held)
      × (get_or (take (at + 1) turned ++ drop (at + 1) held) at (get_or held at x) ∷ drop (at + 1) turned ≡ drop at turned)
  into_front held turned at x within long =
      let y = get_or held at x in
      let z = get_or turned at y in
      let few : length (take at turned) ≡ at = length-take-le at turned (omega arith) in
      let cut : take (at + 1) turned ++ drop (at + 1) held ≡ take at turned ++ z ∷ drop (at + 1) held =
      rw (take_more turned at y long) (append_assoc (take at turned) (z ∷ []) (drop (at + 1) held)) in (
        rw (cut, set_at (take at turned) z (drop (at + 1) held) y at few, drop_more held at x within) refl,
        rw (cut, get_or_at (take at turned) z (drop (at + 1) held) y at few) (sym (drop_more turned at y long)),
      )

  -- one item more is taken
  take_one : (n : ℕ) (x : X) (xs : List X) → take (n + 1) (x ∷ xs) ≡ x ∷ take n xs
  take_one n x xs = let e : n + 1 ≡ suc n = omega arith in rw e refl

  -- no cell is left
  pub none_swapped : (held xs : List X) → IsSwapped 0 held xs held []
  none_swapped held xs = record { enough = omega arith; beside = refl; cells = refl }

  -- a cell of the front half
  one_in_front : (kept at : ℕ) (held : List X) (x : X) (xs rest ys : List X) → length held ≡ kept / 2 → at < kept / 2
      → IsTurned kept (at + 1) (set held at x) xs rest ys
      → IsTurned kept at held (x ∷ xs) (set rest at (get_or held at x)) (get_or rest at (get_or held at x) ∷ ys)
  one_in_front kept at held x xs rest ys half front turned =
      let left = kept - (at + 1) in
      let more : kept - at ≡ left + 1 = omega (arith, front) in
      let within : at < length held = omega (arith, front, half) in
      let ws = take at held ++ x ∷ take left xs in
      let whole : take at held ++ take (kept - at) (x ∷ xs) ≡ ws =
      rw (more, take_one left x xs) refl in
      let taken : take (at + 1) (set held at x) ++ take left xs ≡ ws =
      rw (take_more_set held at x within) (append_assoc (take at held) (x ∷ []) (take left xs)) in
      let long : at < length (reverse ws) = omega (arith, length-reverse ws, length-append (take at held) (x ∷ take left xs), length-take-le at held (omega (arith, within))) in
      let rest_is : rest ≡ take (at + 1) (reverse ws) ++ drop (at + 1) held =
      turned.beside ∙ rw (taken, drop-set-lt (at + 1) held at x (omega arith)) refl in
      let ys_is : ys ≡ drop (at + 1) (reverse ws) = turned.cells ∙ rw taken refl in
      let g = into_front held (reverse ws) at x within long in
      record {
        enough = omega (arith, turned.enough);
        beside = rw (whole, rest_is) (g.0);
        cells = rw (whole, rest_is, ys_is) (g.1);
      }

  -- where both halves meet
  pub halves_meet : (kept at : ℕ) (held xs rest ys : List X) → kept ≡ at + at → IsSwapped at held xs rest ys
      → IsTurned kept at held xs rest ys
  halves_meet kept at held xs rest ys twice swapped =
      let same : kept - at ≡ at = omega (arith, twice) in
      let few : length (reverse (take at xs)) ≡ at = length-reverse (take at xs) ∙ length-take-le at xs swapped.enough in
      let turned : reverse (take at held ++ take (kept - at) xs) ≡ reverse (take at xs) ++ reverse (take at held) =
      rw same (reverse-append (take at held) (take at xs)) in
      record {
        enough = omega (arith, swapped.enough, twice);
        beside = rw (turned, take_at (reverse (take at xs)) (reverse (take at held)) at few) swapped.beside;
        cells = rw (turned, drop_at (reverse (take at xs)) (reverse (take at held)) at few) swapped.cells;
      }

  -- the cell between both halves
  pub one_between : (kept at : ℕ) (held : List X) (x : X) (xs rest ys : List X) → kept ≡ at + at + 1 → IsSwapped at held xs rest ys
      → IsTurned kept at held (x ∷ xs) rest (x ∷ ys)
  one_between kept at held x xs rest ys odd swapped =
      let more : kept - at ≡ at + 1 = omega (arith, odd) in
      let few : length (reverse (take at xs)) ≡ at = length-reverse (take at xs) ∙ length-take-le at xs swapped.enough in
      let turned : reverse (take at held ++ take (kept - at) (x ∷ xs)) ≡ reverse (take at xs) ++ x ∷ reverse (take at held) =
      rw (more, take_one at x xs, reverse-append (take at held) (x ∷ take at xs), reverse-append (x ∷ []) (take at xs))
      (append_assoc (reverse (take at xs)) (x ∷ []) (reverse (take at held))) in
      record {
        enough = omega (arith, swapped.enough, odd);
        beside = rw (turned, take_at (reverse (take at xs)) (x ∷ reverse (take at held)) at few) swapped.beside;
        cells = rw (turned, drop_at (reverse (take at xs)) (x ∷ reverse (take at held)) at few) (ap (λ zs. x ∷ zs) swapped.cells);
      }

  -- a cell of the back half
  one_in_back : (left : ℕ) (held : List X) (x : X) (xs rest ys : List X) → left < length held → IsSwapped left held xs rest ys
      → IsSwapped (left + 1) held (x ∷ xs) (set rest left x) (get_or rest left x ∷ ys)
  one_in_back left held x xs rest ys within swapped =
      let z = get_or held left x in
      let few : length (reverse (take left xs)) ≡ left = length-reverse (take left xs) ∙ length-take-le left xs swapped.enough in
      let rest_is : rest ≡ reverse (take left xs) ++ z ∷ drop (left + 1) held =
      swapped.beside ∙ rw (drop_more held left x within) refl in
      let wanted : reverse (take left xs) ++ x ∷ drop (left + 1) held ≡ reverse (take (left + 1) (x ∷ xs)) ++ drop (left + 1) held =
      rw (take_one left x xs, reverse-append (x ∷ []) (take left xs))
      (sym (append_assoc (reverse (take left xs)) (x ∷ []) (drop (left + 1) held))) in
      let given : z ∷ reverse (take left held) ≡ reverse (take (left + 1) held) =
      rw (take_more held left x within) (sym (reverse-append (take left held) (z ∷ []))) in
      let ys_is : ys ≡ reverse (take left held) = swapped.cells in
      record {
        enough = omega (arith, swapped.enough);
        beside = rw (rest_is, set_at (reverse (take left xs)) z (drop (left + 1) held) x left few) wanted;
        cells = rw (ys_is, rest_is, get_or_at (reverse (take left xs)) z (drop (left + 1) held) x left few) given;
      }

  -- what all cells have once they are turned round
  pub turned_whole : (kept : ℕ) (held xs rest ys : List X) → IsTurned kept 0 held xs rest ys → ys ≡ reverse (take kept xs)
  turned_whole kept held xs rest ys turned =
      let all : kept - 0 ≡ kept = omega arith in turned.cells ∙ rw all refl

  -- a cell of the front half, from what its swaps with what is held tell
  pub one_in_front_by : {held held1 rest rest1 xs ys : List X} {x y own : X} (kept at next : ℕ) → next ≡ at + 1 → length held ≡ kept / 2
      → at < kept / 2 → held1 ≡ set held at x → own ≡ get_or held at x → IsTurned kept next held1 xs rest ys
      → rest1 ≡ set rest at own → y ≡ get_or rest at own → IsTurned kept at held (x ∷ xs) rest1 (y ∷ ys)
  one_in_front_by {held} {held1} {rest} {rest1} {xs} {ys} {x} {y} {own} kept at next e half within taken is turned put got =
      rw (put, got, is) (one_in_front kept at held x xs rest ys half within (rw (← taken, ← e) turned))

  -- a cell of the back half, from what its swap tells
  pub one_in_back_by : {held rest rest1 xs ys : List X} {x y : X} (left next : ℕ) → next ≡ left + 1 → left < length held
      → IsSwapped left held xs rest ys → rest1 ≡ set rest left x → y ≡ get_or rest left x → IsSwapped next held (x ∷ xs) rest1 (y ∷ ys)
  one_in_back_by {held} {rest} {rest1} {xs} {ys} {x} {y} left next e within swapped put got =
      rw (put, got, e) (one_in_back left held x xs rest ys within swapped)

  -- a cell that isn't turned gets its own item again
  pub back_again : {held held1 rest rest1 : List X} {x y own : X} (at : ℕ) → held1 ≡ set held at x → own ≡ get_or held at x
      → rest ≡ held1 → rest1 ≡ set rest at own → y ≡ get_or rest at own → (rest1 ≡ held) × (y ≡ x)
  back_again {held} {held1} {rest} {rest1} {x} {y} {own} at taken is same put got =
      (rw (put, same, taken, is) (swapped_back held at x), rw (got, same, taken, is) (swapped_back_item held at x))
