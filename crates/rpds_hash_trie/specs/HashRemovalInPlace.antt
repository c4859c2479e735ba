-- What a removal in place leaves.
use Rattle.std.specs.Prelude.{◌≡◌, ℕ, ◌≤◌, Bool, List, [], ◌∷◌, length, None, IsSome}
use Rattle.std.specs.declared.rc.Rc.{Rc}
use Rattle.rpds_hash_trie.specs.Places.{seen, without_at}
use Rattle.rpds_hash_trie.specs.HashTrie.{Stored, Trie, flat, found, unmatched}
use Rattle.rpds_hash_trie.specs.HashNode.{stored}
use Rattle.rpds_hash_trie.specs.declared.in_place.Removed.{Removed}
use Rattle.rpds_hash_trie.specs.declared.in_place.Removed.TheVariants.{NotFound, OneLeft, Done}

module _ {K V A : Type 0} where
  -- what a removal leaves of the entries xs
  abbrev pub IsRemoved : (Stored K V → Bool) → List (Stored K V) → List (Stored K V) → Removed K V A → Type 0
  IsRemoved t xs ys NotFound = (found t xs ≡ None) × (ys ≡ xs)
  IsRemoved t xs ys (OneLeft e) = IsSome (found t xs) × (unmatched t xs ≡ stored e ∷ []) × (ys ≡ xs)
  IsRemoved t xs ys Done = IsSome (found t xs) × (ys ≡ unmatched t xs) × (2 ≤ length (unmatched t xs))

  -- what is left of children once the one at a place goes: one entry, with the children as they were, or the others
  abbrev pub IsRemovedChild : ℕ → List (ℕ × Rc (Trie K V) A) → List (ℕ × Rc (Trie K V) A) → Removed K V A → Type 0
  IsRemovedChild p old new NotFound = ⊥
  IsRemovedChild p old new (OneLeft e) = (flat (without_at p (seen old)) ≡ stored e ∷ []) × (new ≡ old)
  IsRemovedChild p old new Done = (2 ≤ length (flat (without_at p (seen old)))) × (seen new ≡ without_at p (seen old))

-- what a removal leaves of a node, whose depth and bits stay
pub record IsRemovedFrom {K V A : Type 0} (t : Stored K V → Bool) (old new : Trie K V) (removed : Removed K V A) : Type 0 where
  pub same : new ≡ record old { entries = new.entries }
  pub entries : IsRemoved t old.entries new.entries removed
