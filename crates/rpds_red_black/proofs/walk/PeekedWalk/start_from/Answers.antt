use Rattle.rpds_red_black.proofs.Words.{◌∙◌, arith, lit<}
use Rattle.rpds_red_black.proofs.WalkStack.{none_stacked}
use Rattle.rpds_red_black.proofs.walk.PeekedWalk.start_from.Goals as goal

pub push_from-requires : goal.push_from-requires
push_from-requires g c =
    let none = none_stacked g.D.Direction.back c.self.inside.next c.self.inside.stack c.self.invariant (c.self.view_is ∙ c.requires.fresh) in
    (lit< tt, rw none (tt, (omega (arith, c.requires.shallow), c.requires.ascending)))
