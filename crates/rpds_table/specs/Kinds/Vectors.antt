-- A vector as a version. Its bits are a part of its value.
use Rattle.std.specs.Prelude.{◌≡◌, ◌+◌, ◌-◌, ℕ, [], ◌∷◌, ◌++◌, length, take, set, slice_get, nat_lt, if◌then◌else◌}
use Rattle.std.specs.Fmt.{debug_list}
use Rattle.rpds_vector.specs.VectorContents.{Contents}
use Rattle.rpds_vector.specs.Width.{width}
use Rattle.rpds_table.specs.KindWords.{Steps, AnswerValue, item, of_both_ends, of_two_sequences, if_in_range, if_room, unless_empty, Behaviour, plain, of_ops, Edit, Extend, WriteAt, Op, Outcome, Unfit, Question}
use Rattle.rpds_table.specs.declared.table.op.Op.TheVariants as ops
use Rattle.rpds_table.specs.declared.table.question.Question.TheVariants as questions

abbrev pub Same : {V : Type 0} → Contents V → Contents V → Type 0
Same v w = v ≡ w

-- the nodes on the way to an item in range: one for each digit of the last position
abbrev pub visits : {V : Type 0} → Contents V → ℕ → ℕ
visits v p = if nat_lt p (length v.items) then width (length v.items) v.bits else 0

module _ {K V : Type 0} where
  abbrev pub outcome_of_op : Contents V → Op K V → Outcome (Contents V)
  outcome_of_op v (ops.PushBack x) = if_room (length v.items + 1) (record v { items = v.items ++ x ∷ [] })
  outcome_of_op v ops.DropLast = unless_empty v.items (record v { items = take (length v.items - 1) v.items })
  outcome_of_op v (ops.Set p x) = if_in_range p (length v.items) (record v { items = set v.items p x })
  outcome_of_op v op = Unfit

  abbrev pub outcome_of_edit : {A : Type 0} → Contents V → Edit K V A → Outcome (Contents V)
  outcome_of_edit v (Extend xs) = if_room (length v.items + length xs.items) (record v { items = v.items ++ xs.items })
  outcome_of_edit v (WriteAt p x) = if_in_range p (length v.items) (record v { items = set v.items p x })
  outcome_of_edit v edit = of_ops (outcome_of_op v) edit

  abbrev pub answer : Contents V → Question K → AnswerValue K V
  answer v (questions.At i p) = item (slice_get v.items p)
  answer v question = of_both_ends v.items question

  -- the work of an answer
  abbrev pub IsCostOfAnswer : Contents V → Question K → Steps → Steps → Type 0
  IsCostOfAnswer v (questions.At i p) = λ old new. new ≡ record old { visited = old.visited + visits v p }
  IsCostOfAnswer v question = λ old new. new ≡ old

abbrev pub behaviour : {K V H A : Type 0} → Behaviour K V H A (Contents V)
behaviour = record (plain Same (λ keys. outcome_of_op) (λ keys. answer) (λ keys values v w. of_two_sequences values v.items w.items) (λ key_text value_text v. debug_list value_text v.items)) { outcome_of_edit = λ keys. outcome_of_edit; IsCostOfAnswer = λ keys hash. IsCostOfAnswer }
