use Rattle.std.proofs.Common.{sym, ◌∙◌, ◌≡◌, length, rules}
use Rattle.rpds_hash_trie.proofs.ArrayGet.{length_placed}
use Rattle.rpds_hash_trie.proofs.sparse_array_usize.SparseArrayUsize.size.Goals as goal

pub returns : goal.returns
returns g c = let p = length_placed c.self.inside.bitmap c.self.inside.items.items c.self.invariant in rw (← c.self.view_is) (let e : c.len.result ≡ length c.self.inside.items.items = search rules in e ∙ sym p)
