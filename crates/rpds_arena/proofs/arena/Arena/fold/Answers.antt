use Rattle.std.proofs.Common.{◌≡◌, [], arith}
use Rattle.std.proofs.lemmas.Grind.{common_steps}
use Rattle.rpds_arena.proofs.arena.Arena.fold.Goals as goal

pub returns : goal.returns
returns g c = λ f h.
    let none : c.loop-item.item-iterator ≡ [] = grind (arith, common_steps, c.in-None.ensures.steps) in
    rw none at (c.loop-item.invariant f h)
