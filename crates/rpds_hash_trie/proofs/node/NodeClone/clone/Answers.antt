use Rattle.std.proofs.Common.{refl}
use Rattle.rpds_hash_trie.proofs.NodeClone.{seen_clones}
use Rattle.rpds_hash_trie.proofs.node.NodeClone.clone.Goals as goal

pub invariant_of-result : goal.invariant_of-result
invariant_of-result g c = rw (seen_clones _ _ c.in_ok-children-in-Branch.ensures) (rw c.in-Branch.is at c.self.invariant)

pub returns-in_ok-children-in-Branch : goal.returns-in_ok-children-in-Branch
returns-in_ok-children-in-Branch g c =
    record { cases = rw (← c.self.view_is, c.in-Branch.is, seen_clones _ _ c.in_ok-children-in-Branch.ensures) refl }
