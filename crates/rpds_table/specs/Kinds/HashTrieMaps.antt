-- A hashed map as a version. Its degree and its hasher are parts of its value, the order of its pairs is not.
use Rattle.std.specs.Prelude.{◌≡◌, ◌+◌, ℕ, Bool, if◌then◌else◌, List, ◌∷◌, length, map, IsSome}
use Rattle.std.specs.List.Sorted.{IsPermutation}
use Rattle.rpds_hash.specs.Digits.{reach, digit_count, hash_count}
use Rattle.rpds_hash.specs.HashedMap.{HashedMap, IsHashed, hashes_of, find, without}
use Rattle.rpds_hash.specs.PairsEqual.{pairs_equal}
use Rattle.rpds_table.specs.KindWords.{Steps, pair, of_entries, of_equal, LooksUp, one_unless_empty, Compared, IsHashedLookUp, if_found, if_room, Behaviour, plain, of_ops, Edit, Change, WriteKey, Op, Outcome, Unfit, Becomes}
use Rattle.rpds_table.specs.declared.table.op.Op.TheVariants as ops
use Rattle.rpds_core.specs.MapText.{map_text}

-- the pairs, each key that is equal to k with the value v; the stored key stays
abbrev pub with_value : {K V : Type 0} → (K → K → Bool) → K → List (K × V) → V → List (K × V)
with_value eq k es v = map (λ p. if eq p.0 k then (p.0, v) else p) es

module _ {K V H : Type 0} where
  abbrev pub Same : HashedMap K V H → HashedMap K V H → Type 0
  Same m n = IsPermutation m.entries n.entries × (m.degree ≡ n.degree) × (m.hasher ≡ n.hasher)

module _ {K V H : Type 0} (keys : Compared K) where
  -- in a new version, a removal of an absent key gives the same pairs
  abbrev pub outcome_of_op : HashedMap K V H → Op K V → Outcome (HashedMap K V H)
  outcome_of_op m (ops.Insert k v) = if_room (length m.entries + 1) (record m { entries = (k, v) ∷ without keys.eq k m.entries })
  outcome_of_op m (ops.Remove k) = Becomes (record m { entries = without keys.eq k m.entries })
  outcome_of_op m op = Unfit

  abbrev pub outcome_of_edit : {A : Type 0} → HashedMap K V H → Edit K V A → Outcome (HashedMap K V H)
  outcome_of_edit m (Change (ops.Remove k)) = if_found m.entries (find keys.eq k m.entries) (record m { entries = without keys.eq k m.entries })
  outcome_of_edit m (WriteKey k v) = if_found m.entries (find keys.eq k m.entries) (record m { entries = with_value keys.eq k m.entries v })
  outcome_of_edit m edit = of_ops (outcome_of_op m) edit

  -- the work of a look-up, by the hash of each key: exactly one node for each digit that tells a stored key from the
  -- others, and one more
  abbrev pub LooksUpKey : (K → ℕ) → HashedMap K V H → K → Steps → Steps → Type 0
  LooksUpKey hash m k = IsHashedLookUp (IsSome (find keys.eq k m.entries)) (reach m.degree (hash k) (hashes_of hash (without keys.eq k m.entries)) + 1) (one_unless_empty m.entries) (digit_count m.degree + 1) (hash_count (hash k) (hashes_of hash m.entries))

abbrev pub behaviour : {K V H A : Type 0} → Behaviour K V H A (HashedMap K V H)
behaviour = record (plain Same outcome_of_op (λ keys m. of_entries pair (λ k. find keys.eq k m.entries) m.entries) (λ keys values m n. of_equal (pairs_equal keys.eq values.eq m.entries n.entries)) (λ key_text value_text m. map_text key_text value_text m.entries)) {
  outcome_of_edit = λ keys. outcome_of_edit keys;
  IsCostOfAnswer = λ keys hash m. LooksUp (LooksUpKey keys (hash m.hasher) m);
  IsInOrder = λ keys hash m. IsHashed keys.eq (hash m.hasher) m;
}
