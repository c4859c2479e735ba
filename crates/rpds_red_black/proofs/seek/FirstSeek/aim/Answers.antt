use Rattle.rpds_red_black.proofs.Words.{refl, pair_of}
use Rattle.rpds_red_black.proofs.ByPosition.{first_of_left, rest_of_left}
use Rattle.rpds_red_black.proofs.seek.FirstSeek.aim.Goals as goal

pub returns-else-is_leaf-clause-aim : goal.returns-else-is_leaf-clause-aim
returns-else-is_leaf-clause-aim g c =
    let n = c.args.node.now in
    let some = c.prove_held.ensures (c.is_leaf.ensures.no c.if-is_leaf.false) in
    (tt, refl, first_of_left n.left.entries n.right.entries (pair_of n.entry.value) some, rest_of_left n.left.entries n.right.entries (pair_of n.entry.value) some)
