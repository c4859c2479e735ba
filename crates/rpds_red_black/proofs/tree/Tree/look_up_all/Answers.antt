use Rattle.std.specs.Prelude.{vec_len}
use Rattle.rpds_red_black.proofs.Words.{◌≤◌, length, ap, arith}
use Rattle.rpds_red_black.proofs.Removal.{whatever_comes}
use Rattle.rpds_red_black.proofs.Spending.{looked_built}
use Rattle.rpds_red_black.proofs.tree.Tree.look_up_all.Goals as goal

pub returns-clause-steps : goal.returns-clause-steps
returns-clause-steps g c =
    let few : vec_len c.choose_into.new.chosen ≤ length c.args.self.now.entries = omega (arith, c.in_ok-choose_into.ensures.few, c.new-chosen.ensures.len) in
    looked_built c.choose_into.ensures.steps c.from_items.ensures.steps few

pub returns-clause-compares : goal.returns-clause-compares
returns-clause-compares g c =
    let built = ap (λ s. s.compared) c.from_items.ensures.steps.only in
    whatever_comes c.from_items.result (λ some others. omega (arith, c.in_ok-choose_into.ensures.compares some others, built))
