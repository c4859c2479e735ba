use Rattle.std.specs.Cmp.Lexicographic.{slice_cmp}
use Rattle.rpds_core.proofs.KnownLists.{item, compares}
use Rattle.rpds_list.proofs.queue.compared.QueueOrd.cmp.Goals as goal

pub returns : goal.returns
returns g c = compares item slice_cmp g.T.Ord.cmp c.order.ensures c.from_front.ensures c.from_front-2.ensures
