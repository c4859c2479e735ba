use Rattle.rpds_vector.proofs.Words.{arith}
use Rattle.rpds_vector.proofs.OpenNodes.{open_branch}
use Rattle.rpds_vector.proofs.Takes.{branch_first}
use Rattle.rpds_vector.proofs.vector.node.Node.+first.Goals as goal

pub returns : goal.returns
returns g t c =
    let o = open_branch c.self.view_is c.in-Branch.is c.self.invariant in
    branch_first c.in-Branch.children.items c.index.result.now c.args.levels _ o c.index.ensures (omega (arith, c.if-levels-eq0.false)) c.requires (rw c.deref.ensures at c.first.ensures)
