-- The entries of a node by whether another node has their keys.
use Rattle.std.specs.Prelude.{◌≡◌, ℕ, suc, ◌+◌, ◌≤◌, Bool, not, false, if◌then◌else◌, Option, Some, None, is_some, nat_lt, List, [], ◌∷◌, length}
use Rattle.std.specs.declared.rc.Rc.{Rc}
use Rattle.rpds_hash_trie.specs.HashTrie.{IsSound, Stored, Trie, flat, found, matches, unmatched}
use Rattle.rpds_hash_trie.specs.Places.{put_at, seen}
use Rattle.rpds_hash_trie.specs.declared.remove.Removal.{Removal}
use Rattle.rpds_hash_trie.specs.declared.remove.Removal.TheVariants.{Absent, Empty, Left}

module _ {K V : Type 0} (eq : K → K → Bool) where
  -- whether the entry goes: where `both` is true, because the others lack its key, and else because they have it
  abbrev pub goes : Bool → List (Stored K V) → Stored K V → Bool
  goes both others e = if is_some (found (matches eq e.1.0 e.0) others) then not both else both

  -- `new` less `old` of the entries have a key that the others have
  abbrev pub AreCounted : List (Stored K V) → List (Stored K V) → ℕ → ℕ → Type 0
  AreCounted xs others old new = new + length (unmatched (goes false others) xs) ≡ old + length xs

module _ {K V A : Type 0} where
  -- what is left of the node v without the entries that pass the test
  abbrev pub IsRestOf : (Stored K V → Bool) → Trie K V → Removal K V A → Type 0
  IsRestOf t v Absent = unmatched t v.entries ≡ v.entries
  IsRestOf t v Empty = unmatched t v.entries ≡ []
  IsRestOf t v (Left n) = n.value ≡ record v { entries = unmatched t v.entries }

-- what is left of v without the entries that go, and how many keys both have
pub record IsSifted {K V A : Type 0} (eq : K → K → Bool) (both : Bool) (v : Trie K V) (others : List (Stored K V)) (r : Removal K V A) (old new : ℕ) : Type 0 where
  pub rest : IsRestOf (goes eq both others) v r
  pub counted : AreCounted eq v.entries others old new

module _ {K V : Type 0} where
  -- the first children, those at places below p
  abbrev pub children_below : ℕ → List (ℕ × Trie K V) → List (ℕ × Trie K V)
  children_below p [] = []
  children_below p (c ∷ cs) = if nat_lt c.0 p then c ∷ children_below p cs else []

  -- the places ascend, from low on
  abbrev pub PlacesAscend : ℕ → List (ℕ × Trie K V) → Type 0
  PlacesAscend low [] = Unit {0}
  PlacesAscend low (c ∷ cs) = (low ≤ c.0) × PlacesAscend (suc c.0) cs

module _ {K V A : Type 0} where
  -- the children that are kept, or the first ones where all of those are
  abbrev pub kept_or : List (ℕ × Trie K V) → Option (List (ℕ × Rc (Trie K V) A)) → List (ℕ × Trie K V)
  kept_or first None = first
  kept_or first (Some kept) = seen kept

  -- the children that are kept are these
  abbrev pub AreThese : List (ℕ × Trie K V) → Option (List (ℕ × Rc (Trie K V) A)) → Type 0
  AreThese these None = ⊥
  AreThese these (Some kept) = seen kept ≡ these

  -- the children that are kept, with what is left of one more: none are listed as long as all are kept whole
  abbrev pub AreKeptOn : ℕ → List (ℕ × Trie K V) → Trie K V → Removal K V A → Option (List (ℕ × Rc (Trie K V) A)) → Option (List (ℕ × Rc (Trie K V) A)) → Type 0
  AreKeptOn p cs c Absent None new = new ≡ None
  AreKeptOn p cs c Absent (Some kept) new = AreThese (put_at p c (seen kept)) new
  AreKeptOn p cs c Empty old new = AreThese (kept_or (children_below p cs) old) new
  AreKeptOn p cs c (Left n) old new = AreThese (put_at p n.value (kept_or (children_below p cs) old)) new

  -- what a node of these entries is, where one is made: nothing where there is none
  abbrev pub IsMadeOf : ℕ → ℕ → List (Stored K V) → Removal K V A → Type 0
  IsMadeOf bits d xs Absent = ⊥
  IsMadeOf bits d xs Empty = xs ≡ []
  IsMadeOf bits d xs (Left n) = n.value ≡ record { entries = xs; depth = d; bits = bits }

  -- what a branch of the children is that are kept; none are listed where all are kept whole
  abbrev pub IsBranchLeft : ℕ → ℕ → Option (List (ℕ × Rc (Trie K V) A)) → Removal K V A → Type 0
  IsBranchLeft bits d None r = r ≡ Absent
  IsBranchLeft bits d (Some kept) r = IsMadeOf bits d (flat (seen kept)) r

  -- a node that is left is sound
  abbrev pub IsSoundLeft : Removal K V A → Type 0
  IsSoundLeft Absent = Unit {0}
  IsSoundLeft Empty = Unit {0}
  IsSoundLeft (Left n) = IsSound n.value
