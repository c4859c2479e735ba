-- How the containers of a kind behave, as the definitions of versions ask of each.
use Rattle.std.specs.Prelude.{◌≡◌, ℕ, List, Option}
use Rattle.rpds_core.specs.declared.steps.Steps.{Steps}
use Rattle.rpds_table.specs.Answers.{AnswerValue}
use Rattle.rpds_table.specs.Budgets.{Budget, no_budget}
use Rattle.rpds_table.specs.Compared.{Compared}
use Rattle.rpds_table.specs.Types.{Edit, Op, Outcome, Unfit, Question}
use Rattle.rpds_table.specs.declared.table.edit.Edit.TheVariants.{Change}

-- the behaviour of a kind whose containers have values in T
pub record Behaviour (K V H A T : Type 0) : Type 1 where
  -- Two containers have the same value.
  pub Same : T → T → Type 0
  -- the outcome of an op, as a container of its own, and that of an edit in place
  pub outcome_of_op : Compared K → T → Op K V → Outcome T
  pub outcome_of_edit : Compared K → T → Edit K V A → Outcome T
  -- the work of either
  pub budget_of_op : T → Op K V → Budget
  pub budget_of_edit : T → Edit K V A → Budget
  -- the answer to a question about one container, and to one about two
  pub answer : Compared K → T → Question K → AnswerValue K V
  pub answer_of_two : Compared K → Compared V → T → T → Question K → AnswerValue K V
  -- the work of an answer about one, by the hash of each key under a hasher
  pub IsCostOfAnswer : Compared K → (H → K → ℕ) → T → Question K → Steps → Steps → Type 0
  -- It is in the order that its kind keeps, where the kind has one.
  pub IsInOrder : Compared K → (H → K → ℕ) → T → Type 0
  -- what it is displayed as, by what its keys and values are
  pub text : (K → Option (List ℕ)) → (V → Option (List ℕ)) → T → Option (List ℕ)

-- What the code of a kind promises: what becomes of a container in T by an op, in a version in W, and by an edit.
pub record Changes (O E W T : Type 0) : Type 1 where
  -- The container and that of the version are of one kind and have the same value.
  pub SameAs : T → W → Type 0
  pub Same : T → T → Type 0
  pub outcome_of_op : T → O → Outcome T
  pub outcome_of_edit : T → E → Outcome T
  pub budget_of_op : T → O → Budget
  pub budget_of_edit : T → E → Budget

-- what it answers to questions in Q
pub record Answers (Q K V T : Type 0) : Type 1 where
  pub answer : T → Q → AnswerValue K V
  pub IsCostOfAnswer : T → Q → Steps → Steps → Type 0
  pub answer_of_two : T → T → Q → AnswerValue K V

abbrev pub answers_of : {K V H A T : Type 0} → Compared K → Compared V → (H → K → ℕ) → Behaviour K V H A T → Answers (Question K) K V T
answers_of keys values hash r = record { answer = r.answer keys; IsCostOfAnswer = r.IsCostOfAnswer keys hash; answer_of_two = r.answer_of_two keys values }

-- of a kind without a hasher
abbrev pub unhashed : {K : Type 0} → Unit {0} → K → ℕ
unhashed hasher key = 0

-- the outcome of an edit in place where only ops fit, by that of an op
abbrev pub of_ops : {K V A T : Type 0} → (Op K V → Outcome T) → Edit K V A → Outcome T
of_ops of_op (Change op) = of_op op
of_ops of_op edit = Unfit

-- the behaviour of a kind that ops alone change, that counts nothing, and that keeps no order of its own
abbrev pub plain : {K V H A T : Type 0} → (T → T → Type 0) → (Compared K → T → Op K V → Outcome T)
    → (Compared K → T → Question K → AnswerValue K V) → (Compared K → Compared V → T → T → Question K → AnswerValue K V)
    → ((K → Option (List ℕ)) → (V → Option (List ℕ)) → T → Option (List ℕ)) → Behaviour K V H A T
plain Same of_op answer of_two text = record {
  Same = Same;
  outcome_of_op = of_op;
  outcome_of_edit = λ keys x. of_ops (of_op keys x);
  budget_of_op = λ x op. no_budget;
  budget_of_edit = λ x edit. no_budget;
  answer = answer;
  answer_of_two = of_two;
  IsCostOfAnswer = λ keys hash x question old new. new ≡ old;
  IsInOrder = λ keys hash x. Unit {0};
  text = text;
}
