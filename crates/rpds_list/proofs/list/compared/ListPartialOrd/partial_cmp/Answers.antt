use Rattle.std.specs.Cmp.Lexicographic.{slice_partial_cmp}
use Rattle.rpds_core.proofs.KnownLists.{item, compares}
use Rattle.rpds_list.proofs.list.compared.ListPartialOrd.partial_cmp.Goals as goal

pub returns : goal.returns
returns g c = compares item slice_partial_cmp g.T.PartialOrd.partial_cmp c.partial_order.ensures c.iter.ensures c.iter-2.ensures
