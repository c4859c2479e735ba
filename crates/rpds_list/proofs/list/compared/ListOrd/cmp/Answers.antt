use Rattle.std.specs.Cmp.Lexicographic.{slice_cmp}
use Rattle.rpds_core.proofs.KnownLists.{item, compares}
use Rattle.rpds_list.proofs.list.compared.ListOrd.cmp.Goals as goal

pub returns : goal.returns
returns g c = compares item slice_cmp g.T.Ord.cmp c.order.ensures c.iter.ensures c.iter-2.ensures
