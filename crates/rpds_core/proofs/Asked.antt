-- What a test answered at one item after another.
use Rattle.std.proofs.Common.{◌≡◌, Bool, List, [], ◌∷◌, ◌++◌, length, refl, ap, subst, sym, ◌∙◌, append_assoc, append-nil, length-append, arith}
use Rattle.std.specs.List.{items_where_true}
use Rattle.std.specs.List.Retain.{ReturnsInTurn, IsFiltered}

module _ {P X : Type 0} (R : P → X → Bool → P → Type 0) where
  one_more : (p : P) (bs : List Bool) (done : List X) (q t : P) (x : X) (b : Bool) → length bs ≡ length done → ReturnsInTurn R p bs done q → R q x b t
      → ReturnsInTurn R p (bs ++ b ∷ []) (done ++ x ∷ []) t
  one_more p [] [] q t x b e told called = (t, subst (λ (s : P). R s x b t) (sym told) called, refl)
  one_more p [] (y ∷ done) q t x b e told called = absurd (omega arith)
  one_more p (c ∷ bs) [] q t x b e told called = absurd told
  one_more p (c ∷ bs) (y ∷ done) q t x b e told called = (told.0, told.1, one_more told.0 bs done q t x b (omega arith) told.2 called)

  -- the test was p at first and is q, and answered bs at all items before the rest
  abbrev pub Asked : P → List X → P → List Bool → List X → Type 0
  Asked p all q bs rest = (done : List X) × (all ≡ done ++ rest) × (length bs ≡ length done) × ReturnsInTurn R p bs done q

  pub asked_one : (p : P) (all : List X) (q t : P) (bs : List Bool) (x : X) (b : Bool) (rest rest' : List X) → R q x b t → rest ≡ x ∷ rest'
      → Asked p all q bs rest → Asked p all t (bs ++ b ∷ []) rest'
  asked_one p all q t bs x b rest rest' called e k = (
    k.0 ++ x ∷ [],
    k.1 ∙ ap (λ l. k.0 ++ l) e ∙ sym (append_assoc k.0 (x ∷ []) rest'),
    omega (arith, length-append bs (b ∷ []), length-append k.0 (x ∷ []), k.2),
    one_more p bs k.0 q t x b k.2 k.3 called,
  )

  pub asked_all : (p : P) (all : List X) (q : P) (bs : List Bool) → Asked p all q bs [] → (length bs ≡ length all)
      × IsFiltered R p all (items_where_true bs all)
  asked_all p all q bs k =
      let same : k.0 ≡ all = sym (append-nil k.0) ∙ sym k.1 in
      let count = k.2 ∙ ap length same in
      (count, (bs, q, count, subst (λ l. ReturnsInTurn R p bs l q) same k.3, refl))
