use Rattle.rpds_tree.proofs.Words.{map, sym}
use Rattle.rpds_tree.proofs.InOrder.{put_ascending}
use Rattle.rpds_tree.proofs.Rising.{rises}
use Rattle.rpds_tree.proofs.in_order.in_order.Goals as goal

pub returns-in-None : goal.returns-in-None
returns-in-None g c =
    let pairs = map g.X.SortedItem.pair c.args.items.items in
    sym (put_ascending g.met.K.Ord.total pairs (rises g.K.Ord.cmp g.met.K.Ord.total pairs (rw (← c.deref.ensures.value) (sym c.in-None.ensures))))
