use Rattle.std.specs.Hash as fed
use Rattle.std.specs.Hash.{HashWrites}
use Rattle.rpds_tree.proofs.Words.{◌++◌, ap, ◌∙◌, refl, flat_map, fold, deref_pair}
use Rattle.rpds_tree.proofs.map.red_black_tree_map.compared.RedBlackTreeMapHash.hash.Goals as goal

pub returns : goal.returns
returns g c =
    let took = g.H.Hasher.write in
    let input : g.row.K.Denot × g.row.V.Denot → HashWrites = λ p. g.K.Hash.hash_input p.0 ++ g.V.Hash.hash_input p.1 in
    let first = c.write_usize.ensures ∙ ap (λ n. took c.args.state.now (fed.le_bytes 8 n)) c.size.ensures.count in
    c.feed.ensures deref_pair (λ w. w) input (λ old result new e. e) (λ x. refl)
    ∙ (λ i. fold took (first i) (flat_map input (c.iter.ensures.rest i)))
