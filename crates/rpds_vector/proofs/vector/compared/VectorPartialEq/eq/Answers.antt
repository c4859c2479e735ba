use Rattle.rpds_vector.proofs.Words.{sym, ◌∙◌, pointwise, unequal, item, compares}
use Rattle.rpds_vector.proofs.vector.compared.VectorPartialEq.eq.Goals as goal

pub returns-then-len : goal.returns-then-len
returns-then-len g c = sym (unequal g.T.PartialEq.eq c.args.self.now.items c.args.other.now.items (λ e. c.if-len.true (c.len.ensures.len ∙ e ∙ sym c.len-2.ensures.len)))

pub returns : goal.returns
returns g c = compares item pointwise g.T.PartialEq.eq c.equal.ensures c.iter.ensures c.iter-2.ensures
