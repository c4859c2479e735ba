-- What a hashed set is seen as, and the words of its contracts.
use Rattle.std.specs.Prelude.{◌≡◌, ℕ, Bool, not, ◌&&◌, Option, List, ◌∷◌, reverse, map, filter, find, is_some, is_none}
use Rattle.std.specs.List.{IsDistinct, list_all}
use Rattle.std.specs.List.Sorted.{IsPermutation}
use Rattle.std.specs.Map.{keys_of}
use Rattle.rpds_hash_trie.specs.Digits.{IsDegree, FollowDigits}
use Rattle.rpds_hash_trie.specs.HashedMap.{HashedMap}

-- its members in the order of a walk, how many children a branch may have, and what makes its hashers
pub record HashedSet (T H : Type 0) : Type 0 where
  pub members : List T
  pub degree : ℕ
  pub hasher : H

-- the keys of a map to unit
abbrev pub set_of : {T H : Type 0} → HashedMap T (Unit {0}) H → HashedSet T H
set_of m = record { members = keys_of m.entries; degree = m.degree; hasher = m.hasher }

module _ {T S : Type 0} (same : T → S → Bool) where
  -- the first member that is the same as s: s is a value, or what a value's form is seen as
  abbrev pub find_member : S → List T → Option T
  find_member s ms = find (λ m. same m s) ms

  -- the members that aren't the same as s
  abbrev pub without_member : S → List T → List T
  without_member s ms = filter (λ m. not (same m s)) ms

module _ {T : Type 0} (eq : T → T → Bool) where
  -- whether each member of the first is found in the second
  abbrev pub is_subset : List T → List T → Bool
  is_subset ms others = list_all (λ m. is_some (find_member eq m others)) ms

  -- whether each member of either is found in the other; lists of distinct members then have one length
  abbrev pub members_equal : List T → List T → Bool
  members_equal ms others = is_subset ms others && is_subset others ms

  -- whether no member of the first is found in the second
  abbrev pub is_disjoint : List T → List T → Bool
  is_disjoint ms others = list_all (λ m. is_none (find_member eq m others)) ms

  -- of items that are equal the last one is a member
  abbrev pub HoldLast : List T → List T → Type 0
  HoldLast items ms = (x : T) → find_member eq x ms ≡ find_member eq x (reverse items)

module _ {T H : Type 0} (eq : T → T → Bool) where
  -- the members are pairwise unequal, and come in the order of the digits of their hashes
  pub record IsHashedSet (hash : T → ℕ) (s : HashedSet T H) : Type 0 where
    pub degree : IsDegree s.degree
    pub distinct : IsDistinct eq s.members
    pub in_order : FollowDigits s.degree (map hash s.members)

  -- new has x and those members of old that aren't equal to it
  pub record IsPutMember (x : T) (old new : HashedSet T H) : Type 0 where
    pub members : IsPermutation (x ∷ without_member eq x old.members) new.members
    pub degree : new.degree ≡ old.degree
    pub hasher : new.hasher ≡ old.hasher
