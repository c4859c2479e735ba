-- A call at a pair.
use Rattle.std.proofs.Common.{◌≡◌, Bool, refl, subst}
use Rattle.std.specs.Borrow.{Bor}
use Rattle.std.specs.Fn.{Called}
use Rattle.rpds_core.specs.Calls.{CalledAtEntry}
use denote.Param.Members.{Mut}

-- it is what a caller knows of a call that returned
pub called_entry : {F K V : Type 0} (g : Mut F (Bor K × (Bor V × Unit {0})) Bool) {f f' : F} {k : Bor K} {v : Bor V} {r b : Bool}
    → Called g f (k, (v, tt)) r f' → r ≡ b → CalledAtEntry g f (k.now, v.now) b f'
called_entry g {f} {f'} {k} {v} {r} {b} c e = record {
  key = k;
  value = v;
  shows = (refl, refl);
  called = subst (λ (t : Bool). Called g f (k, (v, tt)) t f')
      e c;
}
