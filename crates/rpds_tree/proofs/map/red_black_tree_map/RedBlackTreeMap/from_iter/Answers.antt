use Rattle.std.proofs.Common.{map-id}
use Rattle.std.specs.Result.{IfOk}
use Rattle.rpds_tree.proofs.Words.{◌≡◌, [], put_all, subst, IfOk-weaker}
use Rattle.rpds_tree.proofs.map.red_black_tree_map.RedBlackTreeMap.from_iter.Goals as goal

pub returns-clause-entries : goal.returns-clause-entries
returns-clause-entries g c =
    let list = c.in_ok-pairs.ensures in
    let given = c.in_ok-pairs.pairs.items in
    let put : IfOk c.collected.result (λ m. m.entries ≡ put_all g.K.Ord.cmp [] given) =
    subst (λ pairs. IfOk c.collected.result (λ m. m.entries ≡ put_all g.K.Ord.cmp [] pairs)) (map-id given) c.collected.ensures.entries in
    IfOk-weaker c.collected.result _ _ (λ m is. (list.0, given, list.1, list.2, is)) put
