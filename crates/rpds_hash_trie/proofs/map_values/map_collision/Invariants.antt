use Rattle.std.proofs.Common.{◌≡◌, ◌≤◌, length, map, take, vec_len, vec_capacity}
use Rattle.std.specs.List.{AllZip}
use Rattle.rpds_hash_trie.specs.HashNode.{stored}
use Rattle.rpds_hash_trie.specs.HashValues.{HasStoredValueOf}
use Rattle.rpds_hash_trie.proofs.map_values.map_collision.Given as goal

abbrev pub invariant-loop-entry : goal.invariant-loop-entry
invariant-loop-entry g l =
    AllZip (HasStoredValueOf g.F.Fn l.change) (map stored (take l.entry-index l.entries)) (map stored l.others.items)
    × (vec_len l.others ≡ l.entry-index)
    × (length l.entries ≤ vec_capacity l.others)
