-- How a node's parts are seen.
use Rattle.std.specs.Prelude.{◌≡◌, ℕ, ◌≤◌, Option, Some, None, List, [], ◌∷◌, length, map}
use Rattle.rpds_hash_trie.specs.Places.{seen}
use Rattle.rpds_hash_trie.specs.HashTrie.{Stored, Trie, flat, IsBranch, IsLeaf, IsCollision}
use Rattle.rpds_hash_trie.specs.declared.node.EntryWithHash.{EntryWithHash}
use Rattle.rpds_hash_trie.specs.declared.node.Collision.{Collision as Collided}
use Rattle.rpds_hash_trie.specs.declared.node.Kind.{Kind}
use Rattle.rpds_hash_trie.specs.declared.node.Kind.TheVariants.{Branch, Leaf, Collision}

module _ {K V A : Type 0} where
  abbrev pub stored : EntryWithHash K V A → Stored K V
  stored e = (e.key_hash, (e.entry.value.key, e.entry.value.value))

  -- the entries of a collision
  abbrev pub shown : Collided K V A → List (Stored K V)
  shown c = stored c.front ∷ map stored c.others.items

abbrev pub branch_of : {K V : Type 0} → ℕ → ℕ → List (ℕ × Trie K V) → Trie K V
branch_of bits d cs = record { entries = flat cs; depth = d; bits = bits }

abbrev pub leaf_of : {K V : Type 0} → ℕ → ℕ → Stored K V → Trie K V
leaf_of bits d e = record { entries = e ∷ []; depth = d; bits = bits }

abbrev pub collision_of : {K V : Type 0} → ℕ → ℕ → Stored K V → List (Stored K V) → Trie K V
collision_of bits d e es = record { entries = e ∷ es; depth = d; bits = bits }

module _ {K V A : Type 0} where
  abbrev pub trie_of : ℕ → ℕ → Kind K V A → Trie K V
  trie_of bits d (Branch children) = branch_of bits d (seen children)
  trie_of bits d (Leaf entry) = leaf_of bits d (stored entry)
  trie_of bits d (Collision rc) = collision_of bits d (stored rc.value.front) (map stored rc.value.others.items)

  abbrev pub IsNode : ℕ → ℕ → Kind K V A → Type 0
  IsNode bits d (Branch children) = IsBranch bits d (seen children)
  IsNode bits d (Leaf entry) = IsLeaf bits d
  IsNode bits d (Collision rc) = IsCollision bits d rc.value.front.key_hash (map stored rc.value.others.items)

-- the entry, where there is no other
abbrev pub IsAlone : {K V A : Type 0} → List (Stored K V) → Option (EntryWithHash K V A) → Type 0
IsAlone xs None = 2 ≤ length xs
IsAlone xs (Some e) = xs ≡ stored e ∷ []
