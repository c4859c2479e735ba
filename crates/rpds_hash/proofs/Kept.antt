-- What a loop keeps by a test. It goes from one item to the next, and an item in the middle may go.
use Rattle.std.proofs.Common.{◌≡◌, suc, not, Bool, true, false, List, [], ◌∷◌, ◌++◌, map, refl, ap, append_assoc, append-nil, filter, subst, sym, ◌∙◌}
use Rattle.std.specs.Cmp.{IsEquivalence}
use Rattle.std.specs.List.{AllByRecursion, IsDistinct}
use Rattle.std.specs.List.Retain.{IsFiltered}
use Rattle.std.proofs.lemmas.Map.Keys.{IsDistinct-head, IsDistinct-tail}

module _ {P X : Type 0} (R : P → X → Bool → P → Type 0) where
  -- the test was p at first and is q, and `done` was kept: what it keeps of the rest comes behind that
  abbrev pub KeepsOn : P → List X → P → List X → List X → Type 0
  KeepsOn p all q rest done = (zs : List X) → IsFiltered R q rest zs → IsFiltered R p all (done ++ zs)

  keeps_true : (p : P) (all : List X) (q t : P) (x : X) (rest done : List X) → R q x true t → KeepsOn p all q (x ∷ rest) done
      → KeepsOn p all t rest (done ++ x ∷ [])
  keeps_true p all q t x rest done called on = λ zs f.
      let more : IsFiltered R q (x ∷ rest) (x ∷ zs) = (true ∷ f.0, f.1, ap suc f.2, (t, called, f.3), ap (λ l. x ∷ l) f.4) in
      subst (λ l. IsFiltered R p all l) (sym (append_assoc done (x ∷ []) zs)) (on (x ∷ zs) more)

  keeps_false : (p : P) (all : List X) (q t : P) (x : X) (rest done : List X) → R q x false t → KeepsOn p all q (x ∷ rest) done → KeepsOn p all t rest done
  keeps_false p all q t x rest done called on = λ zs f.
      on zs (false ∷ f.0, f.1, ap suc f.2, (t, called, f.3), f.4)

  keeps_all : (p : P) (all : List X) (q : P) (done : List X) → KeepsOn p all q [] done → IsFiltered R p all done
  keeps_all p all q done on = subst (λ l. IsFiltered R p all l) (append-nil done) (on [] ([], q, refl, refl, refl))

  -- `left` has what was kept, and the rest
  abbrev pub Keeping : P → List X → P → List X → List X → Type 0
  Keeping p all q left rest = (done : List X) × (left ≡ done ++ rest) × KeepsOn p all q rest done

  pub keeping_true : (p : P) (all : List X) (q t : P) (x : X) (left rest rest' : List X) → R q x true t → rest ≡ x ∷ rest' → Keeping p all q left rest
      → Keeping p all t left rest'
  keeping_true p all q t x left rest rest' called e k =
      let on : KeepsOn p all q (x ∷ rest') k.0 = subst (λ l. KeepsOn p all q l k.0) e k.2 in
      (k.0 ++ x ∷ [], k.1 ∙ ap (λ l. k.0 ++ l) e ∙ sym (append_assoc k.0 (x ∷ []) rest'), keeps_true p all q t x rest' k.0 called on)

  pub keeping_false : (p : P) (all : List X) (q t : P) (x : X) (left left' rest rest' : List X) → R q x false t → rest ≡ x ∷ rest'
      → ((done : List X) → left ≡ done ++ x ∷ rest' → left' ≡ done ++ rest') → Keeping p all q left rest → Keeping p all t left' rest'
  keeping_false p all q t x left left' rest rest' called e less k =
      let on : KeepsOn p all q (x ∷ rest') k.0 = subst (λ l. KeepsOn p all q l k.0) e k.2 in
      (k.0, less k.0 (k.1 ∙ ap (λ l. k.0 ++ l) e), keeps_false p all q t x rest' k.0 called on)

  pub keeping_all : (p : P) (all : List X) (q : P) (left : List X) → Keeping p all q left [] → IsFiltered R p all left
  keeping_all p all q left k = subst (λ l. IsFiltered R p all l) (sym (append-nil k.0) ∙ sym k.1) (keeps_all p all q k.0 k.2)

-- items of distinct keys, of which the one in the middle goes: `gone` is true of its key and of those that are equal to it
module _ {X K : Type 0} (key : X → K) {eq : K → K → Bool} (law : IsEquivalence eq) (x : X) (gone : K → Bool) (is : (k : K) → gone k ≡ eq (key x) k) where
  stays : (rest : List X) → AllByRecursion (λ k. eq (key x) k ≡ false) (map key rest) → filter (λ y. not (gone (key y))) rest ≡ rest
  stays [] apart = refl
  stays (y ∷ rest) apart = rw (is (key y) ∙ apart.0) (ap (λ l. y ∷ l) (stays rest apart.1))

  apart_middle : (k : K) (done rest : List X) → AllByRecursion (λ j. eq k j ≡ false) (map key (done ++ x ∷ rest)) → eq k (key x) ≡ false
  apart_middle k [] rest apart = apart.0
  apart_middle k (y ∷ done) rest apart = apart_middle k done rest apart.1

  pub without_middle : (done rest : List X) → IsDistinct eq (map key (done ++ x ∷ rest)) → filter (λ y. not (gone (key y))) (done ++ x ∷ rest) ≡ done ++ rest
  without_middle [] rest distinct = rw (is (key x) ∙ law.refl (key x)) (stays rest (IsDistinct-head eq (key x) (map key rest) distinct))
  without_middle (y ∷ done) rest distinct =
      let all = map key (done ++ x ∷ rest) in
      let miss = is (key y) ∙ law.symm (key x) (key y) ∙ apart_middle (key y) done rest (IsDistinct-head eq (key y) all distinct) in
      rw miss (ap (λ l. y ∷ l) (without_middle done rest (IsDistinct-tail eq (key y) all distinct)))
