-- Lists: what proofs of several crates cite.
use Rattle.std.proofs.Common.{◌≡◌, ℕ, zero, suc, ◌+◌, ◌<◌, ◌≤◌, Bool, true, false, List, [], ◌∷◌, ◌++◌, length, refl, ap, arith}
use Rattle.std.specs.List.{items_where_true, slice_get}

module _ {X : Type 0} where
  -- an item of the first of two lists
  pub slice_get_left : (xs ys : List X) (r : ℕ) → r < length xs → slice_get (xs ++ ys) r ≡ slice_get xs r
  slice_get_left [] ys r h = absurd (omega arith)
  slice_get_left (x ∷ xs) ys zero h = refl
  slice_get_left (x ∷ xs) ys (suc r) h = slice_get_left xs ys r (omega arith)

  -- an item of the second
  pub slice_get_right : (xs ys : List X) (n r : ℕ) → n ≡ length xs + r → slice_get (xs ++ ys) n ≡ slice_get ys r
  slice_get_right [] ys n r h = let e : n ≡ r = omega arith in ap (slice_get ys) e
  slice_get_right (x ∷ xs) ys zero r h = absurd (omega arith)
  slice_get_right (x ∷ xs) ys (suc n) r h = slice_get_right xs ys n r (omega arith)

  -- flags choose no more items than there are
  pub chosen_most : (bs : List Bool) (xs : List X) → length (items_where_true bs xs) ≤ length xs
  chosen_most [] xs = omega arith
  chosen_most (b ∷ bs) [] = omega arith
  chosen_most (true ∷ bs) (x ∷ xs) = omega (arith, chosen_most bs xs)
  chosen_most (false ∷ bs) (x ∷ xs) = omega (arith, chosen_most bs xs)

  -- all, where they choose as many
  pub chosen_all : (bs : List Bool) (xs : List X) → length xs ≤ length (items_where_true bs xs) → items_where_true bs xs ≡ xs
  chosen_all [] [] e = refl
  chosen_all [] (x ∷ xs) e = absurd (omega arith)
  chosen_all (b ∷ bs) [] e = refl
  chosen_all (true ∷ bs) (x ∷ xs) e = ap (λ l. x ∷ l) (chosen_all bs xs (omega arith))
  chosen_all (false ∷ bs) (x ∷ xs) e = absurd (omega (arith, chosen_most bs xs))
