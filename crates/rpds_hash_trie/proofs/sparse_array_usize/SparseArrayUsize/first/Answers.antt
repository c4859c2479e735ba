use Rattle.std.proofs.Common.{sym, ◌∙◌}
use Rattle.rpds_hash_trie.proofs.ArrayRemove.{first_placed}
use Rattle.rpds_hash_trie.proofs.sparse_array_usize.SparseArrayUsize.first.Goals as goal

pub returns : goal.returns
returns g c = let p = first_placed c.self.inside.bitmap c.self.inside.items.items c.self.invariant in rw (← c.self.view_is) ((rw c.deref.ensures.value at c.item_of.ensures) ∙ sym p)
