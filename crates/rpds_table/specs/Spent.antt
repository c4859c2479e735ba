-- How many keys a command or a run may compare, and how many nodes of trees it may make.
use Rattle.std.specs.Prelude.{◌≡◌, ℕ, ◌+◌, List, [], ◌∷◌, length, Option, vec_len}
use Rattle.std.specs.Option.{option_map_or}
use Rattle.rpds_core.specs.declared.steps.Steps.{Steps}
use Rattle.rpds_table.specs.Budgets.{Budget, budget, no_budget, with_budget, at_any_point}
use Rattle.rpds_table.specs.Compared.{Compared}
use Rattle.rpds_table.specs.History.{own}
use Rattle.rpds_table.specs.Kinds.{budget_of_edit, budget_of_op}
use Rattle.rpds_table.specs.TableContents.{Contents}
use Rattle.rpds_table.specs.Types.{Command, Change, MakeSorted, MakeSortedItems, WriteKey, New, InPlace, NoMemory, Reply, Made, Refused, Version}
use Rattle.rpds_table.specs.declared.table.edit.Edit.TheVariants as edit

-- A refusal for memory may come at any point of the work, and other refusals come before it.
abbrev pub unless_refused : Reply → Budget → Budget
unless_refused (Refused NoMemory) b = at_any_point b
unless_refused (Refused r) b = no_budget
unless_refused reply b = b

module _ {K V H A S : Type 0} where
  -- what a command may spend, of the values that the versions have before it
  abbrev pub asked_budget : (ℕ → Option (Version K V H A S)) → Command K V A → Budget
  asked_budget before (MakeSorted pairs) = budget 0 0 (length pairs.items)
  asked_budget before (MakeSortedItems items) = budget 0 0 (length items.items)
  asked_budget before (Change i New op) = option_map_or (λ v. budget_of_op v op) (before i) no_budget
  asked_budget before (Change i InPlace op) = option_map_or (λ v. budget_of_edit v (edit.Change op)) (before i) no_budget
  asked_budget before (WriteKey i k x) = option_map_or (λ v. budget_of_edit v (edit.WriteKey k x)) (before i) no_budget
  asked_budget before command = no_budget

  -- what a command that got this reply may have spent
  abbrev pub spent_by : (ℕ → Option (Version K V H A S)) → Command K V A → Reply → Budget
  spent_by before command reply = unless_refused reply (asked_budget before command)

module _ {K V A : Type 0} where
  -- An ordered container that was made of a list has counted a node for each of its items.
  abbrev pub CountsEach : Command K V A → Reply → Steps → Steps → Type 0
  CountsEach (MakeSorted pairs) (Made i) old new = new.made ≡ old.made + vec_len pairs
  CountsEach (MakeSortedItems items) (Made i) old new = new.made ≡ old.made + vec_len items
  CountsEach command reply old new = Unit {0}

module _ {K V H A S : Type 0} (keys : Compared K) where
  -- What a run from t may have spent: the sum over its commands, each at the values that the versions had when its turn
  -- came. The commands come with their replies, the last one first.
  abbrev pub spent : Contents K V H A S → List (Command K V A × Reply) → Budget
  spent t [] = no_budget
  spent t (last ∷ earlier) = with_budget (spent t earlier) (spent_by (own keys t earlier) last.0 last.1)
