-- Pairs whose values are made anew, one after another.
use Rattle.std.proofs.Common.{◌≡◌, Bool, true, false, cond, Some, Ok, List, [], ◌∷◌, ◌++◌, Result, find as first, refl, ap, append_assoc, append-nil}
use Rattle.std.proofs.Common.{subst, sym}
use Rattle.std.specs.Borrow.{Bor}
use Rattle.std.specs.Fn.{FnReturnsAt}
use Rattle.std.specs.List.{AllZip}
use Rattle.std.specs.Map.{keys_of}
use Rattle.std.specs.Option.{option_map}
use Rattle.rpds_core.specs.Calls.{HaveValuesOf}
use denote.Param.Members.{Shared}

module _ {X Y : Type 0} (R : X → Y → Type 0) where
  -- `done` was made of all but the rest: what is made of the rest comes behind it
  abbrev pub MakesOn : List X → List X → List Y → Type 0
  MakesOn all rest done = (ys : List Y) → AllZip R rest ys → AllZip R all (done ++ ys)

  pub makes_one : (all rest rest' : List X) (done : List Y) (x : X) (y : Y) → rest ≡ x ∷ rest' → R x y → MakesOn all rest done
      → MakesOn all rest' (done ++ y ∷ [])
  makes_one all rest rest' done x y e made on = λ ys zip.
      subst (λ l. AllZip R all l) (sym (append_assoc done (y ∷ []) ys)) (on (y ∷ ys) (subst (λ l. AllZip R l (y ∷ ys)) (sym e) (made, zip)))

  pub makes_all : (all rest : List X) (done : List Y) → rest ≡ [] → MakesOn all rest done → AllZip R all done
  makes_all all rest done e on = subst (λ l. AllZip R all l) (append-nil done) (on [] (subst (λ l. AllZip R l []) (sym e) tt))

module _ {F K V W E : Type 0} (g : Shared F (Bor V × Unit {0}) (Result W E)) (f : F) where
  pub same_keys : (ps : List (K × V)) (qs : List (K × W)) → HaveValuesOf g f ps qs → keys_of qs ≡ keys_of ps
  same_keys [] [] zip = refl
  same_keys [] (q ∷ qs) zip = absurd zip
  same_keys (p ∷ ps) [] zip = absurd zip
  same_keys (p ∷ ps) (q ∷ qs) zip = λ i. zip.0.key i ∷ same_keys ps qs zip.1 i

  -- a closure that answers what h gives: what is found by a test of keys has h of the value that was found before
  pub value_found : (h : V → W) → ((x : V) (y : W) → FnReturnsAt g f x (Ok y) → y ≡ h x) → (test : K → Bool) (ps : List (K × V)) (qs : List (K × W))
      → HaveValuesOf g f ps qs → option_map (λ q. q.1) (first (λ q. test q.0) qs) ≡ option_map h (option_map (λ p. p.1) (first (λ p. test p.0) ps))
  value_found h acts test [] [] zip = refl
  value_found h acts test [] (q ∷ qs) zip = absurd zip
  value_found h acts test (p ∷ ps) [] zip = absurd zip
  value_found h acts test (p ∷ ps) (q ∷ qs) zip = rw (ap test zip.0.key) (go (value_found h acts test ps qs zip.1) (test p.0))
    where
      go : option_map (λ q. q.1) (first (λ q. test q.0) qs) ≡ option_map h (option_map (λ p. p.1) (first (λ p. test p.0) ps)) → (b : Bool)
          → option_map (λ q. q.1) (cond b (Some q) (first (λ q. test q.0) qs)) ≡ option_map h (option_map (λ p. p.1)
          (cond b (Some p) (first (λ p. test p.0) ps)))
      go rest true = ap Some (acts p.1 q.1 zip.0.value)
      go rest false = rest
