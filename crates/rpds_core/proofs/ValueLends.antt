-- What is known where a value was lent or a descent stopped.
use Rattle.std.proofs.Common.{MutBor, Result, Ok, Err, Option, ◌≡◌, ◌⊎◌, inl, inr, refl, sym, subst}
use Rattle.std.specs.Result.{IsOk, IsErrAnd}
use Rattle.std.specs.Borrow.{name_if_ok}
use Rattle.std.proofs.lemmas.Bool.{false≢true}
use base.Fml.{GName}
use borrow.Follows.Closed.{read_of}
use mathlib.Core.Option.{none}
use Rattle.rpds_core.specs.ValueLends.{Tells, with_reason}
use Rattle.rpds_core.specs.declared.lend.ValueMutError.{ValueMutError}
use Rattle.rpds_core.specs.declared.lend.ValueMutError.TheVariants.{NoMemory}

-- what was made its pointer's own is what it was, where a clone is equal to its source
pub either_same : {X : Type 0} {x y : X} {C : Type 0} → (C → x ≡ y) → (x ≡ y) ⊎ C → x ≡ y
either_same f (inl e) = e
either_same f (inr c) = f c

-- what a descent that stops for want of memory says
pub record IsRefusal {V E : Type 0} (r : Result (MutBor V) E) (found : Option V) (why : ValueMutError) : Type 0 where
  pub nameless : none ≡ name_if_ok (λ (x : MutBor V). x.ghost_name) r
  pub not_ok : IsOk r → ⊥
  pub returned : Tells found (with_reason why r)

pub refusal : {V E : Type 0} (P : E → Type 0) (r : Result (MutBor V) E) (found : Option V) (why : ValueMutError) → why ≡ NoMemory → IsErrAnd r P → IsRefusal r found why
refusal P (Ok x) found why memory e = absurd e
refusal {V} P (Err x) found why memory e = record { nameless = refl; not_ok = λ z. absurd (false≢true z); returned = subst (λ (y : ValueMutError). Tells {V = V} found (Err y)) (sym memory) tt }

-- what is told of a part is told of the whole, where both find the same
pub told_of : {V : Type 0} {whole part : Option V} → whole ≡ part → (r : Result (MutBor V) ValueMutError) → Tells part r → Tells whole r
told_of e r h = subst (λ f. Tells f r) (sym e) h

-- a loan on a result is read the same, where it holds the same
pub read_same : {D V X E : Type 0} (name : X → GName) (r : Result X E) (F' F : V → D) (v' v : D) → (IsOk r → (w : V) → F' w ≡ F w) → v' ≡ v → read_of (name_if_ok name r) F' v' ≡ read_of (name_if_ok name r) F v
read_same name (Ok x) F' F v' v f e = λ i. inl (name x, λ w. f refl w i)
read_same name (Err x) F' F v' v f e = λ i. inr (e i)
