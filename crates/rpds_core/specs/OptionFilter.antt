-- Rust's `o.filter(test)`.
use Rattle.std.specs.Prelude.{Bool, Option, Some, None}
use Rattle.std.specs.Bool.{then_some}

-- the value, where it passes the test
abbrev pub option_filter : {X : Type 0} → (X → Bool) → Option X → Option X
option_filter test None = None
option_filter test (Some x) = then_some (test x) x
