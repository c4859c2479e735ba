use Rattle.rpds_vector.proofs.Words.{slice_cmp, item, compares}
use Rattle.rpds_vector.proofs.vector.compared.VectorOrd.cmp.Goals as goal

pub returns : goal.returns
returns g c = compares item slice_cmp g.T.Ord.cmp c.order.ensures c.iter.ensures c.iter-2.ensures
