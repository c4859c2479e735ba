use Rattle.rpds_tree.proofs.Words.{refl, subst, DisplaysOnOk, deref, set_text}
use Rattle.rpds_tree.proofs.set.red_black_tree_set.text.RedBlackTreeSetDebug.fmt.Goals as goal

pub returns : goal.returns
returns g c =
    let took = g.W.Write.write_str_gives in
    let text = g.T.Debug.debug_output in
    record {
      writes =
          subst (λ members. DisplaysOnOk took c.args.f.now c.write_set.result (set_text text members) c.write_set.new.f) c.iter.ensures.rest
          (c.write_set.ensures deref (λ w. w) text (λ old result new e. e) (λ x. refl));
    }
