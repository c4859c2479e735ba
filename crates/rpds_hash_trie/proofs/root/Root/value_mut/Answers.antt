use Rattle.rpds_hash_trie.proofs.Words.{◌∙◌, sym, ap, arith, Trie, either_same}
use Rattle.rpds_hash_trie.proofs.Digits.{level_count_le}
use Rattle.rpds_hash_trie.proofs.NodeValueMut.{root_ready}
use Rattle.rpds_hash_trie.proofs.root.Root.value_mut.Goals as goal

pub lend_within_64-requires-clause-ready : goal.lend_within_64-requires-clause-ready
lend_within_64-requires-clause-ready g c =
    let seen = rw c.in-Some.is at c.self.view_is in
    let same = either_same (λ x. x) (rw c.in-Some.is at c.in_ok-node-in-Some.ensures.value) in
    let top = (rw c.in-Some.is at c.self.invariant.at_top).1 in
    root_ready g.Q.HashKey.same (g.Q.HashKey.seen c.args.key) c.args.hash c.args.self.now _ (same ∙ seen) (ap (λ (v : Trie g.row.K.Denot g.row.V.Denot). v.depth) (sym seen) ∙ top) c.requires.once c.requires.clone_keys c.requires.clone_values

pub lend_within_64-requires-clause-shallow : goal.lend_within_64-requires-clause-shallow
lend_within_64-requires-clause-shallow g c = omega (arith, level_count_le c.in_ok-node-in-Some.node.now.bits)
