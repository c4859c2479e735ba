use Rattle.rpds_tree.proofs.Words.{◌∙◌, refl, slice_cmp, deref}
use Rattle.rpds_tree.proofs.set.red_black_tree_set.compared.RedBlackTreeSetOrd.cmp.Goals as goal

pub returns : goal.returns
returns g c =
    c.order.ensures deref (λ w. w) g.T.Ord.cmp (λ old result new e. e) (λ a b. refl)
    ∙ (λ i. slice_cmp g.T.Ord.cmp (c.iter.ensures.rest i) (c.iter-2.ensures.rest i))
