use Rattle.rpds_vector.proofs.Words.{item, feeds}
use Rattle.rpds_vector.proofs.vector.compared.VectorHash.hash.Goals as goal

pub returns : goal.returns
returns g c = feeds item g.H.Hasher.write g.T.Hash.hash_input c.feed.ensures c.write_usize.ensures c.len.ensures.len c.iter.ensures
