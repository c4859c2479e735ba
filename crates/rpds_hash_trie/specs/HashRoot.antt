-- What the root of a trie is seen as: a node at the depth 0, of no entries where there is no node.
use Rattle.std.specs.Prelude.{◌≡◌, ℕ, ◌≤◌, Option, Some, None, [], IfSome, ◌^◌}
use Rattle.std.specs.declared.rc.Rc.{Rc}
use Rattle.rpds_hash_trie.specs.Digits.{FollowDigits}
use Rattle.rpds_hash_trie.specs.HashTrie.{Trie, hashes_in}

-- the trie of no entries
abbrev pub empty_of : {K V : Type 0} → ℕ → Trie K V
empty_of bits = record { entries = []; depth = 0; bits = bits }

module _ {K V A : Type 0} where
  abbrev pub root_of : ℕ → Option (Rc (Trie K V) A) → Trie K V
  root_of bits None = empty_of bits
  root_of bits (Some n) = n.value

  -- the node stands at the depth 0, and its digits have `bits` bits
  pub record IsRoot (bits : ℕ) (node : Option (Rc (Trie K V) A)) : Type 0 where
    pub bits_in : (1 ≤ bits) × (bits ≤ 6)
    pub at_top : IfSome node (λ n. (n.value.bits ≡ bits) × (n.value.depth ≡ 0))

-- what holds of each root
pub record IsTop {K V : Type 0} (v : Trie K V) : Type 0 where
  pub bits_in : (1 ≤ v.bits) × (v.bits ≤ 6)
  pub top : v.depth ≡ 0
  pub in_order : FollowDigits (2 ^ v.bits) (hashes_in v.entries)
