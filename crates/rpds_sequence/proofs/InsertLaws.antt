-- What is as before once an item was put in and taken out, or taken out and put in.
use Rattle.std.proofs.Common.{◌≡◌, ℕ, zero, suc, ◌≤◌, List, [], ◌∷◌, Some, length, slice_get, refl, sym, ap, arith}
use Rattle.std.specs.List.{insert, remove}

module _ {T : Type 0} where
  pub taken_out : (items : List T) (i : ℕ) (item : T) → i ≤ length items → remove (insert items i item) i ≡ items
  taken_out [] zero item le = refl
  taken_out (x ∷ items) zero item le = refl
  taken_out [] (suc i) item le = absurd (omega (arith, le))
  taken_out (x ∷ items) (suc i) item le = ap (λ l. x ∷ l) (taken_out items i item (omega (arith, le)))

  pub put_in : (items : List T) (i : ℕ) (item : T) → slice_get items i ≡ Some item → insert (remove items i) i item ≡ items
  put_in [] i item at = absurd (cc)
  put_in (x ∷ []) zero item at = (let same : x ≡ item = cc in ap (λ z. z ∷ []) (sym same))
  put_in (x ∷ y ∷ items) zero item at = (let same : x ≡ item = cc in ap (λ z. z ∷ y ∷ items) (sym same))
  put_in (x ∷ items) (suc i) item at = ap (λ l. x ∷ l) (put_in items i item at)
