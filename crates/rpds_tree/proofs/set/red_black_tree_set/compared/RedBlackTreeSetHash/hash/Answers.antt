use Rattle.std.specs.Hash as fed
use Rattle.rpds_tree.proofs.Words.{ap, ◌∙◌, refl, flat_map, fold, deref}
use Rattle.rpds_tree.proofs.set.red_black_tree_set.compared.RedBlackTreeSetHash.hash.Goals as goal

pub returns : goal.returns
returns g c =
    let took = g.H.Hasher.write in
    let first = c.write_usize.ensures ∙ ap (λ n. took c.args.state.now (fed.le_bytes 8 n)) c.size.ensures.count in
    c.feed.ensures deref (λ w. w) g.T.Hash.hash_input (λ old result new e. e) (λ x. refl)
    ∙ (λ i. fold took (first i) (flat_map g.T.Hash.hash_input (c.iter.ensures.rest i)))
