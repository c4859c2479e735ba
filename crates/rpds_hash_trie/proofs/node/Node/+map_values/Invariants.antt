use Rattle.std.proofs.Common.{◌≡◌, ◌≤◌, ◌-◌, length, take, vec_len, vec_capacity}
use Rattle.std.specs.List.{AllZip}
use Rattle.rpds_hash_trie.specs.HashTrie.{level_count}
use Rattle.rpds_hash_trie.specs.HashValues.{HasValuesOf}
use Rattle.rpds_hash_trie.specs.Places.{behind}
use Rattle.rpds_hash_trie.proofs.node.Node.+map_values.Given as goal

abbrev pub decreases-map_values : goal.decreases-map_values
decreases-map_values g l = level_count l.self.now.bits - l.self.now.depth

abbrev pub invariant-loop-child : goal.invariant-loop-child
invariant-loop-child g l =
    AllZip (HasValuesOf g.F.Fn l.change) (behind (take l.child-index l.row)) (behind l.mapped_row.items)
    × (vec_len l.mapped_row ≡ l.child-index)
    × (length l.row ≤ vec_capacity l.mapped_row)
