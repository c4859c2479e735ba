-- What one item decides of a visit of all.
use Rattle.std.proofs.Common.{◌≡◌, ◌∙◌, ℕ, ◌+◌, ◌≤◌, length, drop, Bool, true, false, Some, List, [], ◌∷◌, refl, ap, arith}
use Rattle.std.specs.List.{slice_get, fold, list_any, list_all}
use Rattle.std.proofs.lemmas.List.{drop_all, drop_more}
use Rattle.std.proofs.lemmas.List.Folds.{list_all_at, list_any_at}
use Rattle.std.proofs.lemmas.Option.{get_or_from_slice_get, slice_get_within}

module _ {T : Type 0} where
  pub any_at : (p : T → Bool) (xs : List T) (i : ℕ) (x : T) → slice_get xs i ≡ Some x → p x ≡ true → list_any p xs ≡ true
  any_at p xs i x e h = list_any_at p xs i x (slice_get_within xs i x e) (ap p (get_or_from_slice_get xs i x x e) ∙ h)

  pub all_at : (p : T → Bool) (xs : List T) (i : ℕ) (x : T) → slice_get xs i ≡ Some x → p x ≡ false → list_all p xs ≡ false
  all_at p xs i x e h = list_all_at p xs i x (slice_get_within xs i x e) (ap p (get_or_from_slice_get xs i x x e) ∙ h)

  -- what is left begins with the item
  pub left_at : (xs : List T) (i : ℕ) (x : T) → slice_get xs i ≡ Some x → drop i xs ≡ x ∷ drop (i + 1) xs
  left_at xs i x e = drop_more xs i x (slice_get_within xs i x e) ∙ ap (λ y. y ∷ drop (i + 1) xs) (get_or_from_slice_get xs i x x e)

  -- what is left decides, once an item didn't
  pub any_left : (p : T → Bool) (xs : List T) (i : ℕ) (x : T) → slice_get xs i ≡ Some x → p x ≡ false → list_any p (drop (i + 1) xs) ≡ list_any p (drop i xs)
  any_left p xs i x e h = rw (left_at xs i x e, h) refl

  pub all_left : (p : T → Bool) (xs : List T) (i : ℕ) (x : T) → slice_get xs i ≡ Some x → p x ≡ true → list_all p (drop (i + 1) xs) ≡ list_all p (drop i xs)
  all_left p xs i x e h = rw (left_at xs i x e, h) refl

  pub fold_left : {R : Type 0} (f : R → T → R) (v : R) (xs : List T) (i : ℕ) (x : T) → slice_get xs i ≡ Some x → fold f (f v x) (drop (i + 1) xs) ≡ fold f v (drop i xs)
  fold_left f v xs i x e = rw (left_at xs i x e) refl

  pub all_seen : (xs : List T) (n i : ℕ) → n ≡ length xs → n ≤ i → drop i xs ≡ []
  all_seen xs n i e p = drop_all i xs (omega arith)
