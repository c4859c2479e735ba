use Rattle.rpds_red_black.proofs.Words.{ap, sym, ◌∙◌, option_map}
use Rattle.rpds_red_black.proofs.WalkStack.{next_key_is}
use Rattle.rpds_red_black.proofs.walk.PeekedWalk.next_key.Goals as goal

pub returns-in-None : goal.returns-in-None
returns-in-None g c =
    rw (← c.self.view_is) (ap (option_map (λ n. n.now.entry.value.key)) (sym c.in-None.is) ∙ next_key_is g.D.Direction.back c.self.inside.next
    c.self.inside.stack)

pub returns-in-Some : goal.returns-in-Some
returns-in-Some g c =
    rw (← c.self.view_is, c.deref-entry.ensures) (ap (option_map (λ n. n.now.entry.value.key)) (sym c.in-Some.is)
    ∙ next_key_is g.D.Direction.back c.self.inside.next c.self.inside.stack)
