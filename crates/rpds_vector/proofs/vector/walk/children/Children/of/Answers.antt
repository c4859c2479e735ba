use Rattle.rpds_vector.proofs.OpenNodes.{open_branch}
use Rattle.rpds_vector.proofs.WalkRows.{branch_items, branch_low}
use Rattle.rpds_vector.proofs.Walks.{behind_cut_of}
use Rattle.rpds_vector.proofs.vector.walk.children.Children.of.Goals as goal

pub returns-clause-items : goal.returns-clause-items
returns-clause-items g c =
    let o = open_branch c.node.view_is c.in-Branch.is c.node.invariant in
    let cut = behind_cut_of g.D.Direction.back c.in-Some.row.now c.in-Some.first.now c.as_slice.ensures.value c.in-Some.ensures in
    rw c.as_ref.ensures (branch_items o g.D.Direction.back cut)

pub returns-clause-low : goal.returns-clause-low
returns-clause-low g c =
    let o = open_branch c.node.view_is c.in-Branch.is c.node.invariant in
    let cut = behind_cut_of g.D.Direction.back c.in-Some.row.now c.in-Some.first.now c.as_slice.ensures.value c.in-Some.ensures in
    rw c.as_ref.ensures (branch_low o g.D.Direction.back cut)
