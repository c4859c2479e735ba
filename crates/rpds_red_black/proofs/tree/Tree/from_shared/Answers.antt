use Rattle.rpds_red_black.proofs.Words.{refl}
use Rattle.rpds_red_black.proofs.Insertion.{whole}
use Rattle.rpds_red_black.proofs.tree.Tree.from_shared.Goals as goal

pub invariant_of-result : goal.invariant_of-result
invariant_of-result g c =
    let sound = rw c.deref-root.ensures at c.prove_sound.ensures in
    whole c.args.color c.count-count.result c.args.node c.args.node.value refl c.requires (rw c.deref-root.ensures at c.count-count.ensures) sound.left
    sound.right
