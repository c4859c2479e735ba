use Rattle.rpds_red_black.proofs.Words.{[], ◌∷◌, append_assoc, pair_of}
use Rattle.rpds_red_black.proofs.seek.LastPlace.aim.Goals as goal

pub returns-clause-aim : goal.returns-clause-aim
returns-clause-aim g c =
    let n = c.args._node.now in
    (tt, append_assoc n.left.entries (pair_of n.entry.value ∷ n.right.entries) (pair_of c.args._entry.now ∷ []))
