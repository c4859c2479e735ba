-- A node has fewer depths below it than its parent.
use Rattle.std.specs.Prelude.{ℕ, suc, ◌+◌, ◌-◌, ◌<◌, ◌≤◌, max, List, [], ◌∷◌}
use Rattle.std.proofs.Common.{arith, ap}
use Rattle.std.specs.declared.rc.Rc.{Rc}
use denote.Param.Weighed.{most}
use Rattle.std.specs.declared.alloc.Allocator.{Ghosts}
use Rattle.rpds_hash_trie.specs.Places.{seen}
use Rattle.rpds_hash_trie.specs.declared.node.Kind.{Kind}
use Rattle.rpds_hash_trie.specs.declared.node.Kind.TheVariants.{Branch, Leaf, Collision}
use Rattle.rpds_hash_trie.specs.declared.node.Node.TheDeep.{deep-Kind}
use Rattle.rpds_hash_trie.specs.HashTrie.{level_count, Trie, AllChildren, IsChildAt}
use Rattle.rpds_hash_trie.specs.HashNode.{trie_of, IsNode}

module _ {K V A : Type 0} where
  most_of_children : (bits d low : ℕ) (f : ℕ × Rc (Trie K V) A → ℕ) (cs : List (ℕ × Rc (Trie K V) A)) → ((c : ℕ × Rc (Trie K V) A) → f c ≤ (level_count c.1.value.bits - c.1.value.depth) + 1)
      → d < level_count bits → AllChildren bits d low (seen cs) → most f cs ≤ level_count bits - d
  most_of_children bits d low f [] le lt a = omega arith
  most_of_children bits d low f (c ∷ cs) le lt a =
      let child : IsChildAt bits d c.0 c.1.value = a.1.0 in
      omega (arith, le c, ap level_count child.same_bits, child.lower, most_of_children bits d (suc c.0) f cs le lt a.1.1)

  pub deep_le_left : (alloc : Ghosts A) (bits d : ℕ) (k : Kind K V A) → IsNode bits d k → max (deep-Kind K V A alloc k) 0 ≤ level_count (trie_of bits d k).bits - (trie_of bits d k).depth
  deep_le_left alloc bits d (Branch children) h = omega (arith, most_of_children bits d 0 (λ c. max 0 ((level_count c.1.value.bits - c.1.value.depth) + 1)) children (λ c. omega arith) h.left h.children)
  deep_le_left alloc bits d (Leaf entry) h = omega arith
  deep_le_left alloc bits d (Collision rc) h = omega arith
