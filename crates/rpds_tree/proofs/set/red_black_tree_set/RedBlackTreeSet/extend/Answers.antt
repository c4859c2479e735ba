use Rattle.std.proofs.Common.{true, refl, ap, ◌∙◌}
use Rattle.std.specs.Iterator.{Drains}
use Rattle.std.proofs.iter.runs.Made.{run, to_end}
use Rattle.rpds_tree.proofs.Extended.{found_in_members}
use Rattle.rpds_tree.specs.OrderedSet.{find_member}
use Rattle.rpds_tree.proofs.set.red_black_tree_set.RedBlackTreeSet.extend.Goals as goal

pub returns-clause-found : goal.returns-clause-found
returns-clause-found g c =
    let gives = g.I.IntoIter.Iterator.next_gives in
    let start = c.into_iter-values.result in
    let yielded = c.loop-value.yielded in
    let more = rw c.into_iter-value-iterator.ensures.into_iter_gives at c.loop-value.yielded_by in
    let drains : Drains gives start yielded = (c.next.new.self, (c.loop-value.value-iterator, more, c.in-None.ensures.steps)) in (
      start,
      c.into_iter-values.ensures.into_iter_gives,
      (
        run gives start yielded true (to_end gives start yielded drains),
        refl,
        refl,
        λ x. ap (find_member g.T.Ord.cmp x) c.loop-value.invariant.2
            ∙ found_in_members g.met.T.Ord.total x c.args.self.now.members yielded,
      ),
    )
