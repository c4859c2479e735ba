-- A hashed set as a version. Its degree and its hasher are parts of its value, the order of its members is not.
use Rattle.std.specs.Prelude.{◌≡◌, ◌+◌, ℕ, ◌∷◌, length, map, IsSome}
use Rattle.std.specs.List.Sorted.{IsPermutation}
use Rattle.rpds_hash.specs.Digits.{reach, digit_count, hash_count}
use Rattle.rpds_hash.specs.HashedSet.{HashedSet, IsHashedSet, find_member, without_member, is_subset, is_disjoint, members_equal}
use Rattle.rpds_table.specs.KindWords.{Steps, AnswerValue, member, of_entries, of_equal, of_two_sets, LooksUp, one_unless_empty, Compared, IsHashedLookUp, if_found, if_room, Behaviour, plain, of_ops, Edit, Change, Op, Outcome, Unfit, Becomes, Question}
use Rattle.rpds_table.specs.declared.table.op.Op.TheVariants as ops
use Rattle.rpds_core.specs.SetText.{set_text}

module _ {K H : Type 0} where
  abbrev pub Same : HashedSet K H → HashedSet K H → Type 0
  Same s t = IsPermutation s.members t.members × (s.degree ≡ t.degree) × (s.hasher ≡ t.hasher)

module _ {K H : Type 0} (keys : Compared K) where
  -- in a new version, a removal of an absent item gives the same members
  abbrev pub outcome_of_op : {V : Type 0} → HashedSet K H → Op K V → Outcome (HashedSet K H)
  outcome_of_op s (ops.InsertItem k) = if_room (length s.members + 1) (record s { members = k ∷ without_member keys.eq k s.members })
  outcome_of_op s (ops.RemoveItem k) = Becomes (record s { members = without_member keys.eq k s.members })
  outcome_of_op s op = Unfit

  abbrev pub outcome_of_edit : {V A : Type 0} → HashedSet K H → Edit K V A → Outcome (HashedSet K H)
  outcome_of_edit s (Change (ops.RemoveItem k)) = if_found s.members (find_member keys.eq k s.members) (record s { members = without_member keys.eq k s.members })
  outcome_of_edit s edit = of_ops (outcome_of_op s) edit

  -- what two of them answer
  abbrev pub answer_of_two : {V : Type 0} → HashedSet K H → HashedSet K H → Question K → AnswerValue K V
  answer_of_two s t question = of_two_sets (is_disjoint keys.eq) (is_subset keys.eq) s.members t.members (of_equal (members_equal keys.eq s.members t.members) question) question

  -- the work of a look-up, by the hash of each member: exactly one node for each digit that tells a stored member from
  -- the others, and one more
  abbrev pub LooksUpKey : (K → ℕ) → HashedSet K H → K → Steps → Steps → Type 0
  LooksUpKey hash s k = IsHashedLookUp (IsSome (find_member keys.eq k s.members)) (reach s.degree (hash k) (map hash (without_member keys.eq k s.members)) + 1) (one_unless_empty s.members) (digit_count s.degree + 1) (hash_count (hash k) (map hash s.members))

abbrev pub behaviour : {K V H A : Type 0} → Behaviour K V H A (HashedSet K H)
behaviour = record (plain Same (λ keys. outcome_of_op keys) (λ keys s. of_entries member (λ k. find_member keys.eq k s.members) s.members) (λ keys values. answer_of_two keys) (λ key_text value_text s. set_text key_text s.members)) {
  outcome_of_edit = λ keys. outcome_of_edit keys;
  IsCostOfAnswer = λ keys hash s. LooksUp (LooksUpKey keys (hash s.hasher) s);
  IsInOrder = λ keys hash s. IsHashedSet keys.eq (hash s.hasher) s;
}
