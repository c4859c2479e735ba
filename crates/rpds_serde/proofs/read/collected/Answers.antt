use Rattle.std.proofs.Common.{subst}
use Rattle.rpds_serde.proofs.Collected.{takes_all}
use Rattle.rpds_serde.proofs.read.collected.Goals as goal

pub returns-in-Ok : goal.returns-in-Ok
returns-in-Ok g c =
    let ran = c.in-Ok.ensures.ran in
    let made = ran.2 in
    subst (λ xs. g.C.FromIterator.from_iter_gives xs c.in-Ok.all) (takes_all ran.0 c.args.items.items ran.1 made.0 made.3 (ran.3.0, ran.3.1, λ _. ran.3.2 (c.requires.all c.in-Ok.all))) ran.4
