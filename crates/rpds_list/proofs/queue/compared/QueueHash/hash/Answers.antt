use Rattle.rpds_core.proofs.KnownLists.{item, feeds}
use Rattle.rpds_list.proofs.queue.compared.QueueHash.hash.Goals as goal

pub returns : goal.returns
returns g c = feeds item g.H.Hasher.write g.T.Hash.hash_input c.feed.ensures c.write_usize.ensures c.len.ensures.len c.from_front.ensures
