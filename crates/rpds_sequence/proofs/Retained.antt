-- What a test has kept of a list so far.
use Rattle.std.proofs.Common.{◌≡◌, ◌≤◌, suc, Bool, true, false, List, map, [], ◌∷◌, ◌++◌, length, refl, ap, subst, sym, ◌∙◌, append_assoc, append-nil}
use Rattle.std.specs.List.{AllZip}
use Rattle.std.specs.List.Retain.{IsFiltered}
use Rattle.rpds_core.proofs.Lists.{chosen_all}

module _ {P X : Type 0} (R : P → X → Bool → P → Type 0) (p : P) (all : List X) where
  -- the test is q now: what it keeps of the rest comes behind `done`
  abbrev pub KeepsOn : P → List X → List X → Type 0
  KeepsOn q rest done = (ys : List X) → IsFiltered R q rest ys → IsFiltered R p all (done ++ ys)

  pub keeps_first : KeepsOn p all []
  keeps_first ys k = k

  pub keeps_one : (q t : P) (x : X) (rest rest' done : List X) → R q x true t → rest ≡ x ∷ rest' → KeepsOn q rest done → KeepsOn t rest' (done ++ x ∷ [])
  keeps_one q t x rest rest' done called e on ys k = subst (λ l. IsFiltered R p all l) (sym (append_assoc done (x ∷ []) ys))
      (on (x ∷ ys) (subst (λ l. IsFiltered R q l (x ∷ ys)) (sym e) (true ∷ k.0, k.1, ap suc k.2, (t, called, k.3), ap (λ l. x ∷ l) k.4)))

  pub drops_one : (q t : P) (x : X) (rest rest' done : List X) → R q x false t → rest ≡ x ∷ rest' → KeepsOn q rest done → KeepsOn t rest' done
  drops_one q t x rest rest' done called e on ys k = on ys (subst (λ l. IsFiltered R q l ys) (sym e) (false ∷ k.0, k.1, ap suc k.2, (t, called, k.3), k.4))

  pub keeps_all : (q : P) (rest done : List X) → rest ≡ [] → KeepsOn q rest done → IsFiltered R p all done
  keeps_all q rest done e on = subst (λ l. IsFiltered R p all l) (append-nil done) (on [] (subst (λ l. IsFiltered R q l []) (sym e) ([], q, refl, refl, refl)))

module _ {X : Type 0} where
  -- a test that kept as many as there are kept all
  pub filtered_all : {P : Type 0} (R : P → X → Bool → P → Type 0) (p : P) (xs ys : List X) → IsFiltered R p xs ys → length xs ≤ length ys → ys ≡ xs
  filtered_all R p xs ys k most = k.4 ∙ chosen_all k.0 xs (subst (λ l. length xs ≤ length l) k.4 most)

-- what was made of each item is what the closure gives, where it gives a function's values
pub zip_map : {X Y : Type 0} (R : X → Y → Type 0) (h : X → Y) → ((x : X) (y : Y) → R x y → y ≡ h x) → (xs : List X) (ys : List Y) → AllZip R xs ys → ys ≡ map h xs
zip_map R h acts [] [] zip = refl
zip_map R h acts [] (y ∷ ys) zip = absurd zip
zip_map R h acts (x ∷ xs) [] zip = absurd zip
zip_map R h acts (x ∷ xs) (y ∷ ys) zip = λ i. acts x y zip.0 i ∷ zip_map R h acts xs ys zip.1 i
