-- How many keys the changes of ordered containers may compare, and how many nodes of their trees they may make.
use Rattle.std.specs.Prelude.{◌≡◌, ℕ, ◌+◌, ◌≤◌, List, [], ◌∷◌, Result, Ok, Err}
use Rattle.rpds_core.specs.Counts.{IsWithin}
use Rattle.rpds_core.specs.declared.steps.Steps.{Steps}
use Rattle.rpds_table.specs.declared.table.outcome.Outcome.{Outcome}
use Rattle.rpds_table.specs.declared.table.outcome.Outcome.TheVariants.{Unfit, Full}

-- the fewest keys and the most keys that are compared, and the most nodes that are made
pub record Budget : Type 0 where
  pub least : ℕ
  pub compared : ℕ
  pub made : ℕ

abbrev pub budget : ℕ → ℕ → ℕ → Budget
budget least compared made = record { least = least; compared = compared; made = made }

abbrev pub no_budget : Budget
no_budget = budget 0 0 0

-- both together
abbrev pub with_budget : Budget → Budget → Budget
with_budget b c = budget (b.least + c.least) (b.compared + c.compared) (b.made + c.made)

-- In a container that isn't empty, each search compares a key, or visits a node.
abbrev pub one_unless_empty : {T : Type 0} → List T → ℕ
one_unless_empty [] = 0
one_unless_empty (x ∷ xs) = 1

-- what was added to the counts is within the budget, and nothing was added to any other count
pub record IsWithinBudget (b : Budget) (old new : Steps) : Type 0 where
  pub least : old.compared + b.least ≤ new.compared
  pub within : IsWithin b.compared b.made old new

-- the same budget, where memory may have been refused at any point
abbrev pub at_any_point : Budget → Budget
at_any_point b = record b { least = 0 }

-- A change with this outcome was within its budget: nothing is spent on one that doesn't fit, or that there is no room for.
abbrev pub SpendsOn : {T : Type 0} → Budget → Outcome T → Steps → Steps → Type 0
SpendsOn b Unfit old new = new ≡ old
SpendsOn b Full old new = new ≡ old
SpendsOn b outcome old new = IsWithinBudget b old new

-- the same of a change that returned this
abbrev pub Spends : {T E : Type 0} → Budget → Result (Outcome T) E → Steps → Steps → Type 0
Spends b (Ok outcome) old new = SpendsOn b outcome old new
Spends b (Err e) old new = IsWithinBudget (at_any_point b) old new
