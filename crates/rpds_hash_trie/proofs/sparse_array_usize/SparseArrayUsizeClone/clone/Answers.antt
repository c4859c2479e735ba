use Rattle.std.proofs.Common.{◌∙◌}
use Rattle.rpds_hash_trie.proofs.ArraySet.{clones_placed, length_clones}
use Rattle.rpds_hash_trie.proofs.sparse_array_usize.SparseArrayUsizeClone.clone.Goals as goal

pub invariant_of-result : goal.invariant_of-result
invariant_of-result g c = length_clones _ _ _ c.in_ok-items.ensures.cases.0 ∙ c.self.invariant

pub returns : goal.returns
returns g c = record { cases = rw (← c.self.view_is) (clones_placed g.T.Clone.is_clone c.self.inside.bitmap c.self.inside.items.items c.in_ok-items.items.items c.in_ok-items.ensures.cases.0) }
