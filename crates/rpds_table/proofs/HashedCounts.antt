-- The counts of a search in a hashed version; permutations.
use Rattle.std.proofs.Common.{[], ◌≡◌, ◌≢◌, ◌+◌, ◌<◌, ◌≤◌, List, ℕ}
use Rattle.std.specs.List.Sorted.{IsPermutation}
use Rattle.std.proofs.lemmas.List.Sorted.{IsPermutation-refl}
use Rattle.rpds_core.specs.declared.steps.Steps.{Steps}
use Rattle.rpds_table.specs.Budgets.{one_unless_empty}
use Rattle.rpds_table.specs.LookUps.{IsHashedLookUp}
use Rattle.rpds_table.proofs.Budgets.{searched}

pub permutes : {X : Type 0} (xs ys : List X) → ys ≡ xs → IsPermutation xs ys
permutes xs ys is = rw is (IsPermutation-refl xs)

pub looked_up : {S IsThere : Type 0} (xs : List S) (visits most matches : ℕ) (old new : Steps) → (IsThere → new.visited ≡ old.visited + visits)
    → old.visited ≤ new.visited → (xs ≢ [] → old.visited < new.visited) → new.visited ≤ old.visited + most
    → (IsThere → old.matched < new.matched) → old.matched ≤ new.matched → new.matched ≤ old.matched + matches
    → new ≡ record old { visited = new.visited; matched = new.matched } → IsHashedLookUp IsThere visits (one_unless_empty xs) most matches old new
looked_up xs visits most matches old new visited least enters within matched matched_least matched_most only = record {
  visited = visited;
  visited_least = searched xs old.visited new.visited least enters;
  visited_most = within;
  matched = matched;
  matched_least = matched_least;
  matched_most = matched_most;
  only = only;
}
