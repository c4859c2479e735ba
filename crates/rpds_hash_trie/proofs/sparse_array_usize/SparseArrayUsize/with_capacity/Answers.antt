use Rattle.std.proofs.Common.{sym, ap, ◌∙◌, length}
use Rattle.rpds_hash_trie.proofs.ArrayGet.{placed_none, ones_in_zero}
use Rattle.rpds_hash_trie.proofs.sparse_array_usize.SparseArrayUsize.with_capacity.Goals as goal

pub invariant_of-result : goal.invariant_of-result
invariant_of-result g c = ap length c.in_ok-items.ensures.items ∙ sym (ones_in_zero 64)

pub returns : goal.returns
returns g c = placed_none c.in_ok-items.items.items (ap length c.in_ok-items.ensures.items) 0
