-- Which versions a question names, and what containers answer to one, by what they have in common.
use Rattle.std.specs.Prelude.{◌≡◌, ◌-◌, ℕ, Bool, List, Option, None, Some, length, slice_get, is_some, if◌then◌else◌}
use Rattle.std.specs.Cmp.Lexicographic.{pointwise, slice_cmp}
use Rattle.std.specs.declared.cmp.Ordering.{Ordering}
use Rattle.std.specs.declared.ops.Bound.{Bound}
use Rattle.rpds_core.specs.declared.steps.Steps.{Steps}
use Rattle.rpds_table.specs.Answers.{AnswerValue, item, count, truth, order, refused}
use Rattle.rpds_table.specs.Compared.{Compared}
use Rattle.rpds_table.specs.Types.{Question, WrongKind, BadRange}
use Rattle.rpds_table.specs.declared.table.question.Question.TheVariants as questions

module _ {K : Type 0} where
  -- the number of the version that a question names, and that of the second one, if there is one
  abbrev pub versions_of : Question K → ℕ × Option ℕ
  versions_of (questions.First i) = (i, None)
  versions_of (questions.Last i) = (i, None)
  versions_of (questions.At i position) = (i, None)
  versions_of (questions.Key i k) = (i, None)
  versions_of (questions.Size i) = (i, None)
  versions_of (questions.Contains i k) = (i, None)
  versions_of (questions.Range i start end) = (i, None)
  versions_of (questions.Equal i j) = (i, Some j)
  versions_of (questions.Compare i j) = (i, Some j)
  versions_of (questions.Disjoint i j) = (i, Some j)
  versions_of (questions.Subset i j) = (i, Some j)

  -- the work of an answer where that of a look-up of a key is this: no other question adds to a count
  abbrev pub LooksUp : (K → Steps → Steps → Type 0) → Question K → Steps → Steps → Type 0
  LooksUp looked (questions.Key i k) = looked k
  LooksUp looked (questions.Contains i k) = looked k
  LooksUp looked question = λ old new. new ≡ old

module _ {K V : Type 0} where
  -- what a sequence of these items answers
  abbrev pub of_items : List V → Question K → AnswerValue K V
  of_items xs (questions.First i) = item (slice_get xs 0)
  of_items xs (questions.Size i) = count (length xs)
  of_items xs question = refused WrongKind

  -- the same where its last item is at hand
  abbrev pub of_both_ends : List V → Question K → AnswerValue K V
  of_both_ends xs (questions.Last i) = item (slice_get xs (length xs - 1))
  of_both_ends xs question = of_items xs question

  -- what a map or a set answers: `one` shows an entry, and `find` looks one up by its key
  abbrev pub of_entries : {X : Type 0} → (Option X → AnswerValue K V) → (K → Option X) → List X → Question K → AnswerValue K V
  of_entries one find es (questions.Key i k) = one (find k)
  of_entries one find es (questions.Size i) = count (length es)
  of_entries one find es (questions.Contains i k) = truth (is_some (find k))
  of_entries one find es question = refused WrongKind

  -- the same where they ascend: `some` shows entries, and `within` has those between two bounds that fit
  abbrev pub of_ascending : {X : Type 0} → (Option X → AnswerValue K V) → (List X → AnswerValue K V) → (K → Option X) → (Bound K → Bound K → Bool) → (Bound K → Bound K → List X) → List X → Question K → AnswerValue K V
  of_ascending one some find fits within es (questions.First i) = one (slice_get es 0)
  of_ascending one some find fits within es (questions.Last i) = one (slice_get es (length es - 1))
  of_ascending one some find fits within es (questions.Range i start end) = if fits start end then some (within start end) else refused BadRange
  of_ascending one some find fits within es question = of_entries one find es question

  -- what two of them answer that are equal, or aren't
  abbrev pub of_equal : Bool → Question K → AnswerValue K V
  of_equal equal (questions.Equal i j) = truth equal
  of_equal equal question = refused WrongKind

  -- and that are ordered so
  abbrev pub of_ordered : Bool → Ordering → Question K → AnswerValue K V
  of_ordered equal ordering (questions.Compare i j) = order ordering
  of_ordered equal ordering question = of_equal equal question

  -- what two sequences of these items answer
  abbrev pub of_two_sequences : Compared V → List V → List V → Question K → AnswerValue K V
  of_two_sequences values xs ys question = of_ordered (pointwise values.eq xs ys) (slice_cmp values.cmp xs ys) question

  -- what two sets of these members answer, by whether two are disjoint, and whether one is a subset of another; and else
  abbrev pub of_two_sets : (List K → List K → Bool) → (List K → List K → Bool) → List K → List K → AnswerValue K V → Question K → AnswerValue K V
  of_two_sets are_disjoint is_subset s t other (questions.Disjoint i j) = truth (are_disjoint s t)
  of_two_sets are_disjoint is_subset s t other (questions.Subset i j) = truth (is_subset s t)
  of_two_sets are_disjoint is_subset s t other question = other
