-- The entries of two nodes in one.
use Rattle.std.specs.Prelude.{◌≡◌, ℕ, ◌+◌, ◌<◌, ◌≤◌, ◌^◌, Bool, Option, Some, None, List, [], ◌∷◌, length, true}
use Rattle.std.specs.Option.{option_or}
use Rattle.std.specs.declared.rc.Rc.{Rc}
use Rattle.rpds_hash_trie.specs.HashTrie.{Stored, Trie, AllAgree, matches, found, unmatched}
use Rattle.rpds_hash_trie.specs.Places.{put_at, seen}

module _ {K V : Type 0} (eq : K → K → Bool) where
  -- no key, with a hash, is that of two entries
  abbrev pub AllOnce : List (Stored K V) → Type 0
  AllOnce xs = (k : K) → (h : ℕ) → length xs ≤ length (unmatched (matches eq k h) xs) + 1

  -- each key, with a hash, finds the entry of the first list, or else that of the second
  abbrev pub FindsEither : List (Stored K V) → List (Stored K V) → List (Stored K V) → Type 0
  FindsEither xs ys zs = (k : K) → (h : ℕ) → found (matches eq k h) zs ≡ option_or (found (matches eq k h) xs) (found (matches eq k h) ys)

-- entries that fit into the node v: all hashes share what the levels above tell, and no key is that of two entries
pub record CanUnite {K V : Type 0} (eq : K → K → Bool) (v : Trie K V) (ys : List (Stored K V)) (common : ℕ) : Type 0 where
  pub with_root : ℕ
  pub alike : AllAgree v.bits v.depth with_root v.entries
  pub alike_others : AllAgree v.bits v.depth with_root ys
  pub once : AllOnce eq v.entries
  pub once_others : AllOnce eq ys
  pub room : common + length ys < 2 ^ 64

-- w has the entries of v and those of the others that are new; `new` less `old` keys are in both
pub record IsUnited {K V : Type 0} (eq : K → K → Bool) (v : Trie K V) (ys : List (Stored K V)) (w : Trie K V) (old new : ℕ) : Type 0 where
  pub bits : w.bits ≡ v.bits
  pub depth : w.depth ≡ v.depth
  pub found_in : FindsEither eq v.entries ys w.entries
  pub once : AllOnce eq w.entries
  pub sum : new + length w.entries ≡ old + (length v.entries + length ys)
  pub most : new ≤ old + length ys

-- both have one entry, of one key and one hash
pub record AreSameLeaves {K V : Type 0} (eq : K → K → Bool) (xs ys : List (Stored K V)) : Type 0 where
  pub mine : Stored K V
  pub theirs : Stored K V
  pub mine_is : xs ≡ mine ∷ []
  pub theirs_is : ys ≡ theirs ∷ []
  pub same : matches eq theirs.1.0 theirs.0 mine ≡ true

module _ {K V A : Type 0} where
  -- the node that was made, or v where there is none
  abbrev pub node_or : Trie K V → Option (Rc (Trie K V) A) → Trie K V
  node_or v None = v
  node_or v (Some n) = n.value

  -- the changed children, or those that are given where there are none
  abbrev pub children_or : List (ℕ × Trie K V) → Option (List (ℕ × Rc (Trie K V) A)) → List (ℕ × Trie K V)
  children_or cs None = cs
  children_or cs (Some children) = seen children

  -- the children with one put in at the place, where there is one
  abbrev pub put_or : ℕ → Option (Rc (Trie K V) A) → List (ℕ × Trie K V) → List (ℕ × Trie K V)
  put_or place None cs = cs
  put_or place (Some n) cs = put_at place n.value cs
