-- What an insertion leaves of a node.
use Rattle.std.specs.Prelude.{◌≡◌, ℕ, Bool, if◌then◌else◌, List, [], ◌∷◌, is_none}
use Rattle.std.specs.List.Sorted.{IsPermutation}
use Rattle.rpds_hash_trie.specs.HashTrie.{Stored, Trie, found, unmatched}

-- the entry in place of the one that passes the test, and whether there was none
pub record IsPutIn {K V : Type 0} (t : Stored K V → Bool) (e : Stored K V) (old new : Trie K V) (added : Bool) : Type 0 where
  pub bits : new.bits ≡ old.bits
  pub depth : new.depth ≡ old.depth
  pub entries : IsPermutation (e ∷ unmatched t old.entries) new.entries
  pub fresh : added ≡ is_none (found t old.entries)

-- a node at the depth d, with b bits to a digit, that has the entries xs in some order
pub record IsNodeOf {K V : Type 0} (b d : ℕ) (xs : List (Stored K V)) (v : Trie K V) : Type 0 where
  pub bits : v.bits ≡ b
  pub depth : v.depth ≡ d
  pub entries : IsPermutation xs v.entries

module _ {K V : Type 0} where
  -- the entries, with this one in place of the first that passes the test, or behind the last where none does
  abbrev pub with_entry : (Stored K V → Bool) → Stored K V → List (Stored K V) → List (Stored K V)
  with_entry t e [] = e ∷ []
  with_entry t e (x ∷ xs) = if t x then e ∷ xs else x ∷ with_entry t e xs

-- the same among entries of one hash, and whether there was none
pub record IsPutAmong {K V : Type 0} (t : Stored K V → Bool) (e : Stored K V) (old new : List (Stored K V)) (added : Bool) : Type 0 where
  pub entries : new ≡ with_entry t e old
  pub fresh : added ≡ is_none (found t old)
