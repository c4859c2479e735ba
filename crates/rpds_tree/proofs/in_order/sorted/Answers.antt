use Rattle.std.proofs.lemmas.Fn.{dedup_same}
use Rattle.std.proofs.lemmas.List.Sorted.{answers_always, ranks_by}
use Rattle.std.specs.List.Sorted.{IsStable}
use Rattle.std.specs.Ordering.{eq_by_cmp}
use Rattle.rpds_tree.proofs.Words.{◌∙◌, ap, is_lt, map, rules, subst}
use Rattle.rpds_tree.proofs.InOrder.{by_keys, pairs_in_order}
use Rattle.rpds_tree.proofs.in_order.sorted.Goals as goal

pub returns : goal.returns
returns g c =
    let pair = g.X.SortedItem.pair in
    let by = by_keys g.K.Ord.cmp pair in
    let ranks = ranks_by g.met.K.Ord.total (λ x. (pair x).0) in
    let sorted = c.in_ok-sort_by.ensures in
    let ys = c.sort_by.new.self.items in
    let stable = subst (λ l. IsStable by l ys) c.reverse.ensures.items (sorted.stable _ ranks (answers_always _ _ _ (λ f a r f' k. ap is_lt k.met.0))) in
    let left = dedup_same _ (eq_by_cmp by) _ (λ x y b f' x' y' k. search rules) ys _ c.dedup_by.ensures.filtered in
    ap (map pair) left ∙ pairs_in_order g.K.Ord.cmp pair g.met.K.Ord.total c.args.items.items ys (sorted.sorted _ ranks (answers_always _ _ _ (λ f a r f' k. ap is_lt k.met.0))) stable
