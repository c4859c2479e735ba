use Rattle.std.specs.Ordering.{ordering_then}
use Rattle.rpds_tree.proofs.Words.{◌∙◌, refl, slice_cmp, deref_pair, Ordering}
use Rattle.rpds_tree.proofs.map.red_black_tree_map.compared.RedBlackTreeMapOrd.cmp.Goals as goal

pub returns : goal.returns
returns g c =
    let of : g.row.K.Denot × g.row.V.Denot → g.row.K.Denot × g.row.V.Denot → Ordering = λ p q. ordering_then (g.K.Ord.cmp p.0 q.0) (g.V.Ord.cmp p.1 q.1) in
    c.order.ensures deref_pair (λ w. w) of (λ old result new e. e) (λ a b. refl)
    ∙ (λ i. slice_cmp of (c.iter.ensures.rest i) (c.iter-2.ensures.rest i))
