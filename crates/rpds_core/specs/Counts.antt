-- The work of a call, by its counts.
use Rattle.std.specs.Prelude.{◌≡◌, ℕ, ◌+◌, ◌≤◌}
use Rattle.rpds_core.specs.declared.steps.Steps.{Steps}

-- at most `compared` keys were compared and `made` nodes made, and the other counts stay
pub record IsWithin (compared made : ℕ) (old new : Steps) : Type 0 where
  pub compared_least : old.compared ≤ new.compared
  pub compared_most : new.compared ≤ old.compared + compared
  pub made_least : old.made ≤ new.made
  pub made_most : new.made ≤ old.made + made
  pub only : new ≡ record old { compared = new.compared; made = new.made }

-- at most `made` nodes were made, and the other counts stay
pub record IsMadeWithin (made : ℕ) (old new : Steps) : Type 0 where
  pub made_least : old.made ≤ new.made
  pub made_most : new.made ≤ old.made + made
  pub only : new ≡ record old { made = new.made }
