-- How the values of a type are compared.
use Rattle.std.specs.Prelude.{Bool}
use Rattle.std.specs.declared.cmp.Ordering.{Ordering}

-- its equality and its order
pub record Compared (T : Type 0) : Type 0 where
  pub eq : T → T → Bool
  pub cmp : T → T → Ordering

abbrev pub compared : {T : Type 0} → (T → T → Bool) → (T → T → Ordering) → Compared T
compared eq cmp = record { eq = eq; cmp = cmp }
