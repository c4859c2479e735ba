use Rattle.rpds_red_black.proofs.Words.{inr, is_right}
use Rattle.rpds_red_black.proofs.OpenNodes.{opened}
use Rattle.rpds_red_black.proofs.Settled.{child_placed}
use Rattle.rpds_red_black.proofs.tree.Node.replace_by_child.Goals as goal

pub returns : goal.returns
returns g c =
    let copy = rw c.deref-child.ensures at c.in-Ok.ensures in
    let f = opened c.behind-self.view_is c.in-Branch.is c.behind-self.invariant (inr copy) in
    λ color even. child_placed (is_right c.args.side) c.args.self.now c.in-Branch.field-0 c.in-Ok.below f c.near.ensures c.requires.far color even
