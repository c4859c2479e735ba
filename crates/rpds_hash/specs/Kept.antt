-- The pairs of a map by whether another map has their keys.
use Rattle.std.specs.Prelude.{Bool, not, if◌then◌else◌, is_some, List}
use Rattle.rpds_hash_trie.specs.HashedMap.{find}

-- whether the pair is kept: where `both` is true, because the others have its key, and else because they lack it
abbrev pub keeps : {K V : Type 0} → (K → K → Bool) → Bool → List (K × V) → K × V → Bool
keeps eq both others p = if is_some (find eq p.0 others) then both else not both
