-- The last item of a chain of cells.
use Rattle.std.proofs.Common.{◌≡◌, ◌-◌, ◌<◌, ℕ, zero, suc, List, [], ◌∷◌, ◌++◌, Some, length, drop, take, reverse, slice_get, refl, ap, ◌∙◌, arith}
use Rattle.std.proofs.lemmas.List.{reverse-append}
use Rattle.rpds_list.specs.Chain.{last_or, last_of}

-- the last item is the one at the last position
last_or_get : {T : Type 0} (x : T) (xs : List T) → Some (last_or x xs) ≡ slice_get (x ∷ xs) (length xs)
last_or_get x [] = refl
last_or_get x (y ∷ ys) = last_or_get y ys

pub last_of_get : {T : Type 0} (xs : List T) → last_of xs ≡ slice_get xs (length xs - 1)
last_of_get [] = refl
last_of_get (x ∷ xs) =
    let e : length xs ≡ length (x ∷ xs) - 1 = omega arith in last_or_get x xs ∙ ap (λ n. slice_get (x ∷ xs) n) e

-- what is left after the first items ends as the whole does
last_or_drop : {T : Type 0} (x : T) (xs : List T) (n : ℕ) → n < length (x ∷ xs) → last_of (drop n (x ∷ xs)) ≡ Some (last_or x xs)
last_or_drop x xs zero lt = refl
last_or_drop x [] (suc n) lt = absurd (omega arith)
last_or_drop x (y ∷ ys) (suc n) lt = last_or_drop y ys n (omega arith)

pub last_of_drop : {T : Type 0} (xs : List T) (n : ℕ) → n < length xs → last_of (drop n xs) ≡ last_of xs
last_of_drop [] n lt = absurd (omega arith)
last_of_drop (x ∷ xs) n lt = last_or_drop x xs n lt

-- the last item of a list that an item was put behind
last_or_snoc : {T : Type 0} (y : T) (ys : List T) (x : T) → Some (last_or y (ys ++ x ∷ [])) ≡ Some x
last_or_snoc y [] x = refl
last_or_snoc y (z ∷ zs) x = last_or_snoc z zs x

last_of_snoc : {T : Type 0} (xs : List T) (x : T) → last_of (xs ++ x ∷ []) ≡ Some x
last_of_snoc [] x = refl
last_of_snoc (y ∷ ys) x = last_or_snoc y ys x

-- what begins with the first item ends with it once it is turned round
pub last_of_turned : {T : Type 0} (xs : List T) (n : ℕ) → 0 < n → last_of (reverse (take n xs)) ≡ slice_get xs 0
last_of_turned xs zero lt = absurd (omega arith)
last_of_turned [] (suc n) lt = refl
last_of_turned (x ∷ xs) (suc n) lt = ap last_of (reverse-append (x ∷ []) (take n xs)) ∙ last_of_snoc (reverse (take n xs)) x
