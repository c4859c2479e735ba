-- The work of a look-up, by its counts.
use Rattle.std.specs.Prelude.{◌≡◌, ℕ, ◌+◌, ◌<◌, ◌≤◌}
use Rattle.rpds_core.specs.declared.steps.Steps.{Steps}

-- in an ordered container: at least `least` and at most `most` keys were compared, and nothing was added to any other count
pub record IsOrderedLookUp (least most : ℕ) (old new : Steps) : Type 0 where
  pub compared_least : old.compared + least ≤ new.compared
  pub compared_most : new.compared ≤ old.compared + most
  pub only : new ≡ record old { compared = new.compared }

-- in a hashed container: exactly `visits` nodes were visited where the key is there, else `visits_least` to `visits_most`; at
-- most `matches_most` keys were matched, and one at least where the key is there; and nothing was added to any other count
pub record IsHashedLookUp (IsThere : Type 0) (visits visits_least visits_most matches_most : ℕ) (old new : Steps) : Type 0 where
  pub visited : IsThere → new.visited ≡ old.visited + visits
  pub visited_least : old.visited + visits_least ≤ new.visited
  pub visited_most : new.visited ≤ old.visited + visits_most
  pub matched : IsThere → old.matched < new.matched
  pub matched_least : old.matched ≤ new.matched
  pub matched_most : new.matched ≤ old.matched + matches_most
  pub only : new ≡ record old { visited = new.visited; matched = new.matched }
