-- The work of a look-up, by its counts.
use Rattle.std.specs.Prelude.{◌≡◌, ℕ, ◌+◌, ◌<◌, ◌≤◌}
use Rattle.rpds_core.specs.declared.steps.Steps.{Steps}

-- At most `levels` nodes were entered and `keys` keys compared, and the other counts stay. Where the key is there, `path`
-- nodes were entered and one key or more compared; where there is any entry, one node or more was entered.
pub record IsLookUp (There Any : Type 0) (path levels keys : ℕ) (old new : Steps) : Type 0 where
  pub visited : There → new.visited ≡ old.visited + path
  pub visited_most : new.visited ≤ old.visited + levels
  pub visited_least : old.visited ≤ new.visited
  pub enters : Any → old.visited < new.visited
  pub matched_most : new.matched ≤ old.matched + keys
  pub matched_least : old.matched ≤ new.matched
  pub compares : There → old.matched < new.matched
  pub others : new ≡ record old { visited = new.visited; matched = new.matched }
