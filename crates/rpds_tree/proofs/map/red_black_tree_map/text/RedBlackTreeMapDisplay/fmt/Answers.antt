use Rattle.rpds_tree.proofs.Words.{subst, DisplaysOnOk, DisplaysStyledOnOk, map_text}
use Rattle.rpds_tree.proofs.map.red_black_tree_map.text.RedBlackTreeMapDisplay.fmt.Goals as goal

pub returns-clause-writes : goal.returns-clause-writes
returns-clause-writes g c =
    let took = g.W.Write.write_str_gives in
    let key_text = g.K.Display.output in
    let value_text = g.V.Display.output in
    subst (λ pairs. DisplaysOnOk took c.args.f.now c.write_pairs.result (map_text key_text value_text pairs) c.write_pairs.new.f) c.iter.ensures.rest
    (c.write_pairs.ensures.writes (λ w. w) (λ old result new e. e))

pub returns-clause-styled : goal.returns-clause-styled
returns-clause-styled g c =
    let took = g.W.Write.write_str_gives in
    let start = c.args.f.now in
    let key_text = λ (x : g.row.K.Denot). g.K.Display.styled_output x start.spec in
    let value_text = λ (x : g.row.V.Denot). g.V.Display.styled_output x start.spec in
    subst (λ pairs. DisplaysStyledOnOk took start c.write_pairs.result (map_text key_text value_text pairs) c.write_pairs.new.f) c.iter.ensures.rest
    (c.write_pairs.ensures.styled (λ w. w) (λ old result new e. e))
