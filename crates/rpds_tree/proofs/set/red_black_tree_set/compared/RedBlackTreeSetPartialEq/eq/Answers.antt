use Rattle.rpds_tree.proofs.Words.{sym, ◌∙◌, refl, pointwise, unequal, deref}
use Rattle.rpds_tree.proofs.set.red_black_tree_set.compared.RedBlackTreeSetPartialEq.eq.Goals as goal

pub returns-then-size : goal.returns-then-size
returns-then-size g c = sym (unequal g.T.PartialEq.eq c.args.self.now.members c.args.other.now.members (λ e. c.if-size.true (c.size.ensures.count ∙ e ∙ sym c.size-2.ensures.count)))

pub returns : goal.returns
returns g c =
    c.equal.ensures deref (λ w. w) g.T.PartialEq.eq (λ old result new e. e) (λ a b. refl)
    ∙ (λ i. pointwise g.T.PartialEq.eq (c.iter.ensures.rest i) (c.iter-2.ensures.rest i))
