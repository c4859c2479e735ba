use Rattle.std.specs.Ordering.{partial_ordering_then}
use Rattle.rpds_tree.proofs.Words.{Option, ◌∙◌, refl, slice_partial_cmp, deref_pair, Ordering}
use Rattle.rpds_tree.proofs.map.red_black_tree_map.compared.RedBlackTreeMapPartialOrd.partial_cmp.Goals as goal

pub returns : goal.returns
returns g c =
    let of : g.row.K.Denot × g.row.V.Denot → g.row.K.Denot × g.row.V.Denot → Option Ordering = λ p q. partial_ordering_then (g.K.PartialOrd.partial_cmp p.0 q.0) (g.V.PartialOrd.partial_cmp p.1 q.1) in
    c.partial_order.ensures deref_pair (λ w. w) of (λ old result new e. e) (λ a b. refl)
    ∙ (λ i. slice_partial_cmp of (c.iter.ensures.rest i) (c.iter-2.ensures.rest i))
