-- Budgets of one piece of work after another.
use Rattle.std.proofs.Common.{[], ◌∷◌, ◌≡◌, ◌≢◌, ◌+◌, ◌<◌, ◌≤◌, List, ℕ, arith, refl, rules, Result, Ok, Err}
use Rattle.rpds_core.specs.declared.steps.Steps.{Steps}
use Rattle.rpds_core.proofs.Counts.{within_same, within_then}
use Rattle.rpds_table.specs.Budgets.{Budget, IsWithinBudget, Spends, no_budget, one_unless_empty, with_budget, at_any_point}
use Rattle.rpds_table.specs.declared.table.outcome.Outcome.{Outcome}
use Rattle.rpds_table.specs.declared.table.outcome.Outcome.TheVariants.{Unfit, Full, Nothing, Absent, Becomes}

-- No work at all is within a budget that asks for none.
pub no_work : (b : Budget) (s : Steps) → b.least ≡ 0 → IsWithinBudget b s s
no_work b s e = record { least = omega (arith, e); within = within_same b.compared b.made s }

-- Work that was done is also done at some point.
pub within_at_any_point : (b : Budget) (old new : Steps) → IsWithinBudget b old new → IsWithinBudget (at_any_point b) old new
within_at_any_point b old new h = record { least = omega (arith, h.within.compared_least); within = h.within }

-- what is searched counts one, unless it is empty
pub searched : {S : Type 0} (xs : List S) (old new : ℕ) → old ≤ new → (xs ≢ [] → old < new) → old + one_unless_empty xs ≤ new
searched [] old new le some = omega (arith, le)
searched (x ∷ xs) old new le some = omega (arith, some (λ e. search (rules, e)))

-- one after another
pub budget_then : (b c : Budget) (old mid new : Steps) → IsWithinBudget b old mid → IsWithinBudget c mid new → IsWithinBudget (with_budget b c) old new
budget_then b c old mid new h k = record { least = omega (arith, h.least, k.least); within = within_then h.within k.within }

-- a change that counts nothing, and has no budget
pub unspent : {T E : Type 0} (r : Result (Outcome T) E) (s : Steps) → Spends no_budget r s s
unspent (Ok Unfit) s = refl
unspent (Ok Full) s = refl
unspent (Ok Nothing) s = no_work no_budget s refl
unspent (Ok Absent) s = no_work no_budget s refl
unspent (Ok (Becomes x)) s = no_work no_budget s refl
unspent (Err e) s = no_work no_budget s refl
