use Rattle.std.specs.Cmp.Lexicographic.{slice_partial_cmp}
use Rattle.rpds_core.proofs.KnownLists.{item, compares}
use Rattle.rpds_list.proofs.queue.compared.QueuePartialOrd.partial_cmp.Goals as goal

pub returns : goal.returns
returns g c = compares item slice_partial_cmp g.T.PartialOrd.partial_cmp c.partial_order.ensures c.from_front.ensures c.from_front-2.ensures
