-- What two counts of an article come to.
use Rattle.std.specs.Prelude.{ℕ, Option, None, Some, min}

-- the lower of both, and none where there is one alone
abbrev pub lower : Option ℕ → Option ℕ → Option ℕ
lower (Some our) (Some their) = Some (min our their)
lower our their = None
