use Rattle.rpds_tree.proofs.Words.{Bool, ◌&&◌, sym, ◌∙◌, refl, pointwise, unequal, deref_pair}
use Rattle.rpds_tree.proofs.map.red_black_tree_map.compared.RedBlackTreeMapPartialEq.eq.Goals as goal

pub returns-then-size : goal.returns-then-size
returns-then-size g c =
    let of : g.row.K.Denot × g.row.V.Denot → g.row.K.Denot × g.row.V.Denot → Bool = (λ p q. g.K.PartialEq.eq p.0 q.0 && g.V.PartialEq.eq p.1 q.1) in
    sym (unequal of c.args.self.now.entries c.args.other.now.entries (λ e. c.if-size.true (c.size.ensures.count ∙ e ∙ sym c.size-2.ensures.count)))

pub returns : goal.returns
returns g c =
    let of : g.row.K.Denot × g.row.V.Denot → g.row.K.Denot × g.row.V.Denot → Bool = (λ p q. g.K.PartialEq.eq p.0 q.0 && g.V.PartialEq.eq p.1 q.1) in
    c.equal.ensures deref_pair (λ w. w) of (λ old result new e. e) (λ a b. refl)
    ∙ (λ i. pointwise of (c.iter.ensures.rest i) (c.iter-2.ensures.rest i))
