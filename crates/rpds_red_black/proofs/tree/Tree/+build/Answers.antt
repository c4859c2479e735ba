use Rattle.rpds_red_black.proofs.Words.{sym, ap, ◌∙◌, arith}
use Rattle.rpds_red_black.proofs.FromSorted.{halves, height_of_none, made_none}
use Rattle.rpds_red_black.proofs.tree.Tree.+build.Goals as goal

pub returns-then-count-eq0-clause-black : goal.returns-then-count-eq0-clause-black
returns-then-count-eq0-clause-black g t c =
    ap (λ s. s.black) c.new.ensures ∙ sym (height_of_none c.args.height c.args.count c.if-count-eq0.true c.requires.enough)

pub returns-then-count-eq0-clause-made : goal.returns-then-count-eq0-clause-made
returns-then-count-eq0-clause-made g t c = made_none c.args.steps.now c.args.count c.if-count-eq0.true

pub build-requires : goal.build-requires
build-requires g t c κs within =
    let sides = halves c.args.height c.args.count c.if-height-eq0.false c.requires.enough c.requires.few in
    (omega arith, (within.0, (within.1.0, (within.1.1.0, (within.1.1.1, (omega arith, (sides.1.enough, sides.1.few)))))))

pub build-requires-2 : goal.build-requires-2
build-requires-2 g t c κs within =
    let sides = halves c.args.height c.args.count c.if-height-eq0.false c.requires.enough c.requires.few in
    (omega arith, (within.0, (within.1.0, (within.1.1.0, (within.1.1.1, (omega (arith, c.in_ok-right.ensures.rest, c.take_last-2.ensures.rest), (sides.0.enough, sides.0.few)))))))
