use Rattle.rpds_vector.proofs.Words.{◌+◌, ◌%◌, ◌≡◌, ◌⊎◌, inl, inr, sym, ◌∙◌, arith}
use Rattle.rpds_vector.specs.Trie.{span}
use Rattle.rpds_vector.proofs.Descent.{root_counted}
use Rattle.rpds_vector.proofs.Roots.{opened, index_of, root_in}
use Rattle.rpds_vector.proofs.Walks.{part_of_root, subtree_of}
use Rattle.rpds_vector.proofs.vector.Vector.subtree.Goals as goal
use Rattle.rpds_vector.proofs.vector.Vector.subtree.Goals.{else-edge-self-via-then-edge-self+else-left_below-ne0, else-edge-self-via-else-edge-self}

pub below-node-requires-clause-there : goal.below-node-requires-clause-there
below-node-requires-clause-there g c =
    let o = opened c.self.view_is c.in-Some.is c.deref-root.ensures c.self.invariant in
    let height = c.height_for-height.ensures in
    root_in c.height_for-height.result o c.prove_sound.ensures height.levels height.shift c.args.index (omega (arith, c.requires, root_counted o))

pub returns : goal.returns
returns g c =
    let o = opened c.self.view_is c.in-Some.is c.deref-root.ensures c.self.invariant in
    let low = c.min-lower.result in
    let found = c.below-node.result.now in
    let n = index_of c.height_for-height.result o c.prove_sound.ensures c.height_for-height.ensures.levels c.args.index
    (omega (arith, c.requires, root_counted o)) in
    let part = part_of_root o c.args.index _ low n found.items c.below-node.ensures.part in
    let edge : (c.args.edge ≡ c.self.inside.len) ⊎ (c.args.edge % span c.self.inside.bits (low + 1) ≡ 0) = elim c.else-edge-self.branch [
      | else-edge-self-via-then-edge-self+else-left_below-ne0 w ↦ inr (sym w.left_below.ensures ∙ w.if-left_below-ne0.false)
      | else-edge-self-via-else-edge-self w ↦ inl w.if-edge-self.false
    ] in
    subtree_of o c.args.index c.args.edge low found part c.below-node.ensures.level c.below-node.ensures.same_bits c.prove_sound-in-Some.ensures
    (omega (arith, c.min-lower.ensures)) edge
