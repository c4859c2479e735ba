-- What a removal leaves.
use Rattle.std.specs.Prelude.{◌≡◌, ◌<◌, Bool, [], None, IsSome}
use Rattle.rpds_core.specs.declared.steps.Steps.{Steps}
use Rattle.rpds_hash_trie.specs.HashTrie.{Stored, Trie, found, unmatched}
use Rattle.rpds_hash_trie.specs.declared.remove.Removal.{Removal}
use Rattle.rpds_hash_trie.specs.declared.remove.Removal.TheVariants.{Absent, Empty, Left}

-- the node without the entries that pass the test
pub record IsLeft {K V : Type 0} (t : Stored K V → Bool) (v left : Trie K V) : Type 0 where
  pub there : IsSome (found t v.entries)
  pub is : left ≡ record v { entries = unmatched t v.entries }

module _ {K V A : Type 0} where
  abbrev pub IsRemoval : (Stored K V → Bool) → Trie K V → Removal K V A → Type 0
  IsRemoval t v Absent = found t v.entries ≡ None
  IsRemoval t v Empty = IsSome (found t v.entries) × (unmatched t v.entries ≡ [])
  IsRemoval t v (Left n) = IsLeft t v n.value

  -- where a node is left, it was made, and counted; where the key was absent, none was made
  abbrev pub MakesLeft : Steps → Steps → Removal K V A → Type 0
  MakesLeft old new Absent = new ≡ old
  MakesLeft old new Empty = Unit {0}
  MakesLeft old new (Left n) = old.made < new.made
