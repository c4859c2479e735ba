use Rattle.rpds_red_black.proofs.Words.{ap, sym, ◌∙◌, arith, lit<, from_top, given, upcoming}
use Rattle.rpds_red_black.proofs.walk.PeekedWalk.next.Goals as goal

pub nearest-self-inside-requires : goal.nearest-self-inside-requires
nearest-self-inside-requires g c =
    let room = rw c.in-Some.is at c.self.invariant in
    (lit< tt, (room.1, rw c.far.ensures (omega (arith, room.0))))

pub returns : goal.returns
returns g c =
    let nodes = ap (λ next. from_top (given g.D.Direction.back) (upcoming next c.self.inside.stack)) c.in-Some.is in
    rw (c.deref-entry.ensures, c.nearest-self-inside.ensures.rest, c.far.ensures) (sym c.self.view_is ∙ nodes)
