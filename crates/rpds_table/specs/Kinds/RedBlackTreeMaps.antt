-- An ordered map as a version. The depth of its tree is no part of its value.
use Rattle.std.specs.Prelude.{◌≡◌, ◌+◌, ◌*◌, ◌&&◌, List, length}
use Rattle.std.specs.Cmp.Lexicographic.{pointwise, slice_cmp}
use Rattle.std.specs.Ordering.{ordering_then}
use Rattle.std.specs.declared.cmp.Ordering.{Ordering}
use Rattle.rpds_tree.specs.Logarithm.{most_levels}
use Rattle.rpds_tree.specs.OrderedMap.{OrderedMap, IsOrdered}
use Rattle.rpds_tree.specs.Pairs.{find, put, without}
use Rattle.rpds_tree.specs.Ranges.{fits, within}
use Rattle.rpds_tree.specs.Values.{with_value}
use Rattle.rpds_table.specs.KindWords.{AnswerValue, pair, pairs, of_ascending, of_ordered, LooksUp, Budget, budget, no_budget, one_unless_empty, Compared, IsOrderedLookUp, if_found, if_room, Behaviour, plain, of_ops, Edit, Change, WriteKey, Op, Outcome, Unfit, Becomes, Question}
use Rattle.rpds_table.specs.declared.table.op.Op.TheVariants as ops
use Rattle.rpds_core.specs.MapText.{map_text}

module _ {K V : Type 0} where
  abbrev pub Same : OrderedMap K V → OrderedMap K V → Type 0
  Same m n = m.entries ≡ n.entries

  -- the work of an op that leaves the map: a key is compared at most once on each level
  abbrev pub budget_of_op : OrderedMap K V → Op K V → Budget
  budget_of_op m (ops.Insert k v) = budget (one_unless_empty m.entries) (most_levels (length m.entries)) (most_levels (length m.entries) + 1)
  budget_of_op m (ops.Remove k) = budget (one_unless_empty m.entries) (most_levels (length m.entries)) (4 * most_levels (length m.entries))
  budget_of_op m op = no_budget

  -- the work of an edit in place
  abbrev pub budget_of_edit : {A : Type 0} → OrderedMap K V → Edit K V A → Budget
  budget_of_edit m (Change op) = budget_of_op m op
  budget_of_edit m (WriteKey k v) = budget 0 (most_levels (length m.entries)) (most_levels (length m.entries))
  budget_of_edit m edit = no_budget

-- the pairs after an op that finds something to do
abbrev pub pairs_after : {K V : Type 0} → (K → K → Ordering) → List (K × V) → Op K V → List (K × V)
pairs_after cmp entries (ops.Insert k v) = put cmp (k, v) entries
pairs_after cmp entries (ops.Remove k) = without cmp k entries
pairs_after cmp entries op = entries

module _ {K V : Type 0} (keys : Compared K) where
  -- in a new version, a removal of an absent key gives the same pairs
  abbrev pub outcome_of_op : OrderedMap K V → Op K V → Outcome (OrderedMap K V)
  outcome_of_op m (ops.Insert k v) = if_room (length m.entries + 1) (record m { entries = put keys.cmp (k, v) m.entries })
  outcome_of_op m (ops.Remove k) = Becomes (record m { entries = without keys.cmp k m.entries })
  outcome_of_op m op = Unfit

  abbrev pub outcome_of_edit : {A : Type 0} → OrderedMap K V → Edit K V A → Outcome (OrderedMap K V)
  outcome_of_edit m (Change (ops.Remove k)) = if_found m.entries (find keys.cmp k m.entries) (record m { entries = without keys.cmp k m.entries })
  outcome_of_edit m (WriteKey k v) = if_found m.entries (find keys.cmp k m.entries) (record m { entries = with_value keys.cmp k m.entries v })
  outcome_of_edit m edit = of_ops (outcome_of_op m) edit

  abbrev pub answer : OrderedMap K V → Question K → AnswerValue K V
  answer m question = of_ascending pair pairs (λ k. find keys.cmp k m.entries) (fits keys.cmp) (λ start end. within keys.cmp start end m.entries) m.entries question

  -- what two of them answer
  abbrev pub answer_of_two : Compared V → OrderedMap K V → OrderedMap K V → Question K → AnswerValue K V
  answer_of_two values m n question =
      of_ordered (pointwise (λ p q. keys.eq p.0 q.0 && values.eq p.1 q.1) m.entries n.entries) (slice_cmp (λ p q. ordering_then (keys.cmp p.0 q.0) (values.cmp p.1 q.1)) m.entries n.entries) question

abbrev pub behaviour : {K V H A : Type 0} → Behaviour K V H A (OrderedMap K V)
behaviour = record (plain Same outcome_of_op answer answer_of_two (λ key_text value_text m. map_text key_text value_text m.entries)) {
  outcome_of_edit = λ keys. outcome_of_edit keys;
  budget_of_op = budget_of_op;
  budget_of_edit = budget_of_edit;
  IsCostOfAnswer = λ keys hash m. LooksUp (λ k. IsOrderedLookUp (one_unless_empty m.entries) (most_levels (length m.entries)));
  IsInOrder = λ keys hash m. IsOrdered keys.cmp m;
}
