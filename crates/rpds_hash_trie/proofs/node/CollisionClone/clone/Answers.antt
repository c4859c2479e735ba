use Rattle.std.proofs.Common.{refl}
use Rattle.rpds_hash_trie.proofs.NodeClone.{all_stored}
use Rattle.rpds_hash_trie.proofs.node.CollisionClone.clone.Goals as goal

pub returns : goal.returns
returns g c = record { cases = rw (c.in_ok-front.ensures, all_stored _ _ c.in_ok-others.ensures.cases.0) refl }
