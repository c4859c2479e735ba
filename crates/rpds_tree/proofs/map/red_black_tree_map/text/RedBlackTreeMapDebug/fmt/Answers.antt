use Rattle.rpds_tree.proofs.Words.{subst, DisplaysOnOk, map_text}
use Rattle.rpds_tree.proofs.map.red_black_tree_map.text.RedBlackTreeMapDebug.fmt.Goals as goal

pub returns : goal.returns
returns g c =
    let took = g.W.Write.write_str_gives in
    let key_text = g.K.Debug.debug_output in
    let value_text = g.V.Debug.debug_output in
    record {
      writes =
          subst (λ pairs. DisplaysOnOk took c.args.f.now c.write_map.result (map_text key_text value_text pairs) c.write_map.new.f) c.iter.ensures.rest
          (c.write_map.ensures (λ w. w) (λ old result new e. e));
    }
