use Rattle.rpds_red_black.proofs.Words.{rules, ◌≡◌, refl, within_same, is_right, painted}
use Rattle.rpds_red_black.proofs.Removal.{remains_over}
use Rattle.rpds_red_black.proofs.Take.{taken_unless}
use Rattle.rpds_red_black.proofs.tree.Node.remove_near.Goals as goal

pub returns-in_err-entry : goal.returns-in_err-entry
returns-in_err-entry g c = record { ok = search rules; unmade = λ _. refl; makes = search rules; steps = within_same _ _ _ }

pub returns : goal.returns
returns g c =
    let n = c.args.self.now in
    let there = taken_unless c.args.loss.now c.in_default.not-Absent in
    let same : c.in_ok-entry.entry.value ≡ n.entry.value = search rules in
    record {
      ok = remains_over (is_right c.args.side) (painted c.args.color n) c.args.loss.now c.args.below c.in_ok-entry.entry c.over_remains.new.loss there same
          c.over_remains.result c.over_remains.ensures.ok;
      unmade = λ absent. absurd (c.in_default.not-Absent absent);
      makes = λ _. c.over_remains.ensures.makes;
      steps = c.over_remains.ensures.steps;
    }
