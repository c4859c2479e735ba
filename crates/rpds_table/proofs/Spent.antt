-- What is spent is within the budgets.
use Rattle.std.proofs.Common.{[], ◌∷◌, ◌++◌, ◌≡◌, Option, Some, None, List, slice_get, length, subst, refl, sym, ℕ}
use Rattle.std.specs.Option.{option_map_or}
use Rattle.rpds_core.specs.declared.steps.Steps.{Steps}
use Rattle.rpds_table.specs.Budgets.{Budget, IsWithinBudget, SpendsOn, no_budget}
use Rattle.rpds_table.specs.Compared.{Compared}
use Rattle.rpds_table.specs.History.{SameOption, history, own}
use Rattle.rpds_table.specs.Kinds.{Same, budget_of_edit, budget_of_op}
use Rattle.rpds_table.specs.Spent.{asked_budget, spent, spent_by, unless_refused}
use Rattle.rpds_table.specs.TableContents.{Contents}
use Rattle.rpds_table.specs.Transitions.{Allows, Run, adds_version}
use Rattle.rpds_table.proofs.Budgets.{no_work, within_at_any_point, budget_then}
use Rattle.rpds_table.proofs.History.{history_append, run_holds_own}
use Rattle.rpds_table.proofs.Respects.{budgets_alike, op_budgets_alike}
use Rattle.rpds_table.specs.Replies.{reply_to}
use Rattle.rpds_table.specs.Types.{Command, Change, WriteKey, New, InPlace, Outcome, NoMemory, Reply, Made, Refused, Done, Version}
use Rattle.rpds_table.specs.declared.table.edit.Edit.TheVariants as edit
use Rattle.rpds_table.specs.declared.table.outcome.Outcome.TheVariants as outcome

-- no reply spends anything of no budget
pub unless_refused_none : (reply : Reply) → unless_refused reply no_budget ≡ no_budget
unless_refused_none (Refused NoMemory) = refl
unless_refused_none reply = refl

-- a command without a budget, after which the counts are as before
pub free : (reply : Reply) (s : Steps) → IsWithinBudget (unless_refused reply no_budget) s s
free reply s = rw (unless_refused_none reply) (no_work no_budget s refl)

module _ {T : Type 0} (b : Budget) (old new : Steps) where
  -- what is spent on an outcome is within the budget of its reply
  pub within_reported : (reported : Outcome T) → SpendsOn b reported old new → IsWithinBudget (unless_refused (reply_to reported) b) old new
  within_reported outcome.Unfit h = rw h (no_work no_budget old refl)
  within_reported outcome.Full h = rw h (no_work no_budget old refl)
  within_reported reported h = h

  pub within_made : (reported : Outcome T) (x : T) → reported ≡ outcome.Becomes x → SpendsOn b reported old new → IsWithinBudget b old new
  within_made (outcome.Becomes x) y e h = h
  within_made reported y e h = absurd (cc)

-- what was made is added, unless memory is refused
pub within_added : {K V H A S : Type 0} (b : Budget) (old new : Steps) (v : Version K V H A S) (t t' : List (Version K V H A S)) (reply : Reply)
    → (keys : Compared K) (hash : H → K → ℕ) → Allows keys hash None (adds_version v) t reply t' → IsWithinBudget b old new
    → IsWithinBudget (unless_refused reply b) old new
within_added b old new v t t' (Made n) keys hash a h = h
within_added b old new v t t' (Refused r) keys hash a h = rw a.0 (within_at_any_point b old new h)
within_added b old new v t t' (Done d) keys hash a h = absurd a

module _ {K V H A S : Type 0} where
  -- versions of the same value give a command the same budget
  budgets_at : (f : Version K V H A S → Budget) → ((v w : Version K V H A S) → Same v w → f v ≡ f w) → (v w : Option (Version K V H A S)) → SameOption v w
      → option_map_or f v no_budget ≡ option_map_or f w no_budget
  budgets_at f alike None None e = refl
  budgets_at f alike (Some v) (Some w) e = alike v w e
  budgets_at f alike v w e = absurd e

  asked_alike : (command : Command K V A) (before after : ℕ → Option (Version K V H A S)) → ((i : ℕ) → SameOption (before i) (after i))
      → asked_budget before command ≡ asked_budget after command
  asked_alike (Change i New op) before after e = budgets_at (λ v. budget_of_op v op) (op_budgets_alike op) (before i) (after i) (e i)
  asked_alike (Change i InPlace op) before after e = budgets_at (λ v. budget_of_edit v (edit.Change op)) (budgets_alike (edit.Change op)) (before i)
      (after i) (e i)
  asked_alike (WriteKey i k x) before after e = budgets_at (λ v. budget_of_edit v (edit.WriteKey k x)) (budgets_alike (edit.WriteKey k x)) (before i)
      (after i) (e i)
  asked_alike command before after e = refl

  -- a run that goes on by a command is within the sum of their budgets
  pub spent_more : (keys : Compared K) (hash : H → K → ℕ) (t mid : Contents K V H A S) (cs : List (Command K V A)) (ys : List Reply) (c : Command K V A)
      (y : Reply)
      (start old new : Steps) → length cs ≡ length ys → Run keys hash t cs ys mid → IsWithinBudget (spent keys t (history cs ys)) start old
      → IsWithinBudget (spent_by (λ i. slice_get mid.versions i) c y) old new → IsWithinBudget (spent keys t (history (cs ++ c ∷ []) (ys ++ y ∷ []))) start new
  spent_more keys hash t mid cs ys c y start old new e run h k =
      let alike = asked_alike c (own keys t (history cs ys)) (λ i. slice_get mid.versions i) (run_holds_own keys hash t mid cs ys run) in
      let now : IsWithinBudget (spent_by (own keys t (history cs ys)) c y) old new = subst (λ b. IsWithinBudget (unless_refused y b) old new) (sym alike) k in
      rw (history_append cs ys c y e) (budget_then (spent keys t (history cs ys)) (spent_by (own keys t (history cs ys)) c y) start old new h now)
