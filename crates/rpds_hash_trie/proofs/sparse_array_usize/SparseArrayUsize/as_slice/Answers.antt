use Rattle.std.proofs.Common.{sym, ◌∙◌}
use Rattle.rpds_hash_trie.proofs.ArrayRemove.{items_placed}
use Rattle.rpds_hash_trie.proofs.sparse_array_usize.SparseArrayUsize.as_slice.Goals as goal

pub returns : goal.returns
returns g c = rw (← c.self.view_is) (c.as_slice.ensures.value ∙ sym (items_placed c.self.inside.bitmap c.self.inside.items.items c.self.invariant))
