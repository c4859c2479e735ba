use Rattle.rpds_vector.proofs.Words.{slice_partial_cmp, item, compares}
use Rattle.rpds_vector.proofs.vector.compared.VectorPartialOrd.partial_cmp.Goals as goal

pub returns : goal.returns
returns g c = compares item slice_partial_cmp g.T.PartialOrd.partial_cmp c.partial_order.ensures c.iter.ensures c.iter-2.ensures
