use Rattle.rpds_vector.proofs.Words.{sym, ◌∙◌}
use Rattle.rpds_vector.proofs.Walks.{behind_cut}
use Rattle.rpds_vector.proofs.vector.walk.children.Children.next.Goals as goal

pub returns-in-Some : goal.returns-in-Some
returns-in-Some g c =
    rw c.as_ref.ensures (sym c.self.view_is ∙ behind_cut g.D.Direction.back c.self.inside.row.now c.in-Some.rest.now c.in-Some.node.now c.in-Some.ensures)
