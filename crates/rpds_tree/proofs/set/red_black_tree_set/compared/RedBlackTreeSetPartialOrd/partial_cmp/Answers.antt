use Rattle.rpds_tree.proofs.Words.{◌∙◌, refl, slice_partial_cmp, deref}
use Rattle.rpds_tree.proofs.set.red_black_tree_set.compared.RedBlackTreeSetPartialOrd.partial_cmp.Goals as goal

pub returns : goal.returns
returns g c =
    c.partial_order.ensures deref (λ w. w) g.T.PartialOrd.partial_cmp (λ old result new e. e) (λ a b. refl)
    ∙ (λ i. slice_partial_cmp g.T.PartialOrd.partial_cmp (c.iter.ensures.rest i) (c.iter-2.ensures.rest i))
