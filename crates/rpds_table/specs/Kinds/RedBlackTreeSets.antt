-- An ordered set as a version. The depth of its tree is no part of its value.
use Rattle.std.specs.Prelude.{◌≡◌, ◌+◌, ◌*◌, length}
use Rattle.std.specs.Cmp.Lexicographic.{pointwise, slice_cmp}
use Rattle.rpds_tree.specs.Logarithm.{most_levels}
use Rattle.rpds_tree.specs.OrderedSet.{OrderedSet, IsOrderedSet, find_member, put_member, without_member, members_within, is_subset, is_disjoint}
use Rattle.rpds_tree.specs.Ranges.{fits}
use Rattle.rpds_table.specs.KindWords.{AnswerValue, member, members, of_ascending, of_ordered, of_two_sets, LooksUp, Budget, budget, no_budget, one_unless_empty, Compared, IsOrderedLookUp, if_found, if_room, Behaviour, plain, of_ops, Edit, Change, Op, Outcome, Unfit, Becomes, Question}
use Rattle.rpds_table.specs.declared.table.op.Op.TheVariants as ops
use Rattle.rpds_core.specs.SetText.{set_text}

module _ {K : Type 0} where
  abbrev pub Same : OrderedSet K → OrderedSet K → Type 0
  Same s t = s.members ≡ t.members

  -- the work of an op that leaves the set: a member is compared at most once on each level
  abbrev pub budget_of_op : {V : Type 0} → OrderedSet K → Op K V → Budget
  budget_of_op s (ops.InsertItem k) = budget (one_unless_empty s.members) (most_levels (length s.members)) (most_levels (length s.members) + 1)
  budget_of_op s (ops.RemoveItem k) = budget (one_unless_empty s.members) (most_levels (length s.members)) (4 * most_levels (length s.members))
  budget_of_op s op = no_budget

  -- the work of an edit in place
  abbrev pub budget_of_edit : {V A : Type 0} → OrderedSet K → Edit K V A → Budget
  budget_of_edit s (Change op) = budget_of_op s op
  budget_of_edit s edit = no_budget

module _ {K : Type 0} (keys : Compared K) where
  -- in a new version, a removal of an absent item gives the same members
  abbrev pub outcome_of_op : {V : Type 0} → OrderedSet K → Op K V → Outcome (OrderedSet K)
  outcome_of_op s (ops.InsertItem k) = if_room (length s.members + 1) (record s { members = put_member keys.cmp k s.members })
  outcome_of_op s (ops.RemoveItem k) = Becomes (record s { members = without_member keys.cmp k s.members })
  outcome_of_op s op = Unfit

  abbrev pub outcome_of_edit : {V A : Type 0} → OrderedSet K → Edit K V A → Outcome (OrderedSet K)
  outcome_of_edit s (Change (ops.RemoveItem k)) = if_found s.members (find_member keys.cmp k s.members) (record s { members = without_member keys.cmp k s.members })
  outcome_of_edit s edit = of_ops (outcome_of_op s) edit

  abbrev pub answer : {V : Type 0} → OrderedSet K → Question K → AnswerValue K V
  answer s question = of_ascending member members (λ k. find_member keys.cmp k s.members) (fits keys.cmp) (λ start end. members_within keys.cmp start end s.members) s.members question

  -- what two of them answer
  abbrev pub answer_of_two : {V : Type 0} → OrderedSet K → OrderedSet K → Question K → AnswerValue K V
  answer_of_two s t question =
      of_two_sets (is_disjoint keys.cmp) (is_subset keys.cmp) s.members t.members (of_ordered (pointwise keys.eq s.members t.members) (slice_cmp keys.cmp s.members t.members) question) question

abbrev pub behaviour : {K V H A : Type 0} → Behaviour K V H A (OrderedSet K)
behaviour = record (plain Same (λ keys. outcome_of_op keys) (λ keys. answer keys) (λ keys values. answer_of_two keys) (λ key_text value_text s. set_text key_text s.members)) {
  outcome_of_edit = λ keys. outcome_of_edit keys;
  budget_of_op = budget_of_op;
  budget_of_edit = budget_of_edit;
  IsCostOfAnswer = λ keys hash s. LooksUp (λ k. IsOrderedLookUp (one_unless_empty s.members) (most_levels (length s.members)));
  IsInOrder = λ keys hash s. IsOrderedSet keys.cmp s;
}
