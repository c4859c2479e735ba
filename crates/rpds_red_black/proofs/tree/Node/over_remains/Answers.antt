use Rattle.rpds_red_black.proofs.Words.{rules, ap, ◌∙◌, arith, Steps, within_made, within_more, within_same, is_right, painted}
use Rattle.rpds_red_black.proofs.Removal.{even_kept, remains_kept, whatever_comes}
use Rattle.rpds_red_black.proofs.Take.{lost_none}
use Rattle.rpds_red_black.proofs.tree.Node.over_remains.Goals as goal

pub of_parts-requires : goal.of_parts-requires
of_parts-requires g c =
    let none = lost_none c.args.loss.now c.in_default.not-RemovedShorter in
    let lowered = c.requires.lowered in
    even_kept (is_right c.args.side) (painted c.args.color c.args.self.now) c.requires.even c.args.entry c.args.below c.in_ok-far.far
    (c.in_ok-far.ensures ∙ c.far-far.ensures) (omega (arith, lowered.black, none)) lowered.stays

pub returns-in_err-far : goal.returns-in_err-far
returns-in_err-far g c = record { ok = search rules; makes = search rules; steps = within_same _ _ _ }

pub returns : goal.returns
returns g c =
    let none = lost_none c.args.loss.now c.in_default.not-RemovedShorter in
    let lowered = c.requires.lowered in
    let steps = c.of_parts.ensures.steps in
    record {
      ok = remains_kept (is_right c.args.side) (painted c.args.color c.args.self.now) c.requires.even c.args.entry c.args.below c.in_ok-far.far
          (c.in_ok-far.ensures ∙ c.far-far.ensures) (omega (arith, lowered.black, none)) lowered.stays c.args.loss.now c.requires.taken none
          c.of_parts.result c.of_parts.ensures.ok;
      makes = whatever_comes c.of_parts.result (omega (arith, ap (λ (s : Steps). s.made) steps));
      steps = within_more (within_made steps) (omega arith) (omega arith);
    }
