use Rattle.std.proofs.Common.{sym, ap, ◌∙◌, length}
use Rattle.rpds_hash_trie.proofs.ArrayGet.{placed_none, ones_in_zero}
use Rattle.rpds_hash_trie.proofs.sparse_array_usize.SparseArrayUsize.new.Goals as goal

pub invariant_of-result : goal.invariant_of-result
invariant_of-result g c = ap length c.new.ensures.items ∙ sym (ones_in_zero 64)

pub returns : goal.returns
returns g c = placed_none c.new.result.items (ap length c.new.ensures.items) 0
