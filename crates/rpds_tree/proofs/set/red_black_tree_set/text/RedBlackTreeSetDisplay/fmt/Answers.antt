use Rattle.rpds_tree.proofs.Words.{refl, subst, DisplaysOnOk, DisplaysStyledOnOk, deref, set_text}
use Rattle.rpds_tree.proofs.set.red_black_tree_set.text.RedBlackTreeSetDisplay.fmt.Goals as goal

pub returns-clause-writes : goal.returns-clause-writes
returns-clause-writes g c =
    let took = g.W.Write.write_str_gives in
    let text = g.T.Display.output in
    subst (λ members. DisplaysOnOk took c.args.f.now c.write_between.result (set_text text members) c.write_between.new.f) c.iter.ensures.rest
    (c.write_between.ensures.writes deref (λ w. w) text (λ old result new e. e) (λ x. refl))

pub returns-clause-styled : goal.returns-clause-styled
returns-clause-styled g c =
    let took = g.W.Write.write_str_gives in
    let start = c.args.f.now in
    let text = λ (x : g.row.T.Denot). g.T.Display.styled_output x start.spec in
    subst (λ members. DisplaysStyledOnOk took start c.write_between.result (set_text text members) c.write_between.new.f) c.iter.ensures.rest
    (c.write_between.ensures.styled deref (λ w. w) text (λ old result new e. e) (λ x. refl))
