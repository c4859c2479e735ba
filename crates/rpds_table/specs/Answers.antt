-- Answers, without where their parts lie in memory.
use Rattle.std.specs.Prelude.{ℕ, Bool, List, Option}
use Rattle.std.specs.Map.Iter.{deref_pair}
use Rattle.std.specs.Option.{option_copied, option_map}
use Rattle.std.specs.declared.cmp.Ordering.{Ordering}
use Rattle.rpds_table.specs.declared.table.answer.Answer.{Answer}
use Rattle.rpds_table.specs.declared.table.answer.Answer.TheVariants as answers
use Rattle.rpds_table.specs.declared.table.refusal.Refusal.{Refusal}

pub data AnswerValue (K V : Type 0) : Type 0 where
  -- an item, if there is one
  item : Option V → AnswerValue K V
  -- a key and its value, if there is one
  pair : Option (K × V) → AnswerValue K V
  -- a member, if there is one
  member : Option K → AnswerValue K V
  -- a number of items
  count : ℕ → AnswerValue K V
  -- whether it is so
  truth : Bool → AnswerValue K V
  -- the pairs of a range, in the order in which they are walked from the front
  pairs : List (K × V) → AnswerValue K V
  -- the members of a range
  members : List K → AnswerValue K V
  -- how two versions are ordered
  order : Ordering → AnswerValue K V
  -- the question has no answer
  refused : Refusal → AnswerValue K V

abbrev pub answer_value : {K V A : Type 0} → Answer K V A → AnswerValue K V
answer_value (answers.Item found) = item (option_copied found)
answer_value (answers.Pair found) = pair (option_map deref_pair found)
answer_value (answers.Member found) = member (option_copied found)
answer_value (answers.Size size) = count size
answer_value (answers.Truth so) = truth so
answer_value (answers.Pairs walk) = pairs walk
answer_value (answers.Members walk) = members walk
answer_value (answers.Order found) = order found
answer_value (answers.Refused refusal) = refused refusal
