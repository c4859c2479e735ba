use Rattle.std.proofs.Common.{◌≡◌, ap}
use Rattle.std.proofs.lemmas.Result.{on_err_weaker}
use Rattle.rpds_core.proofs.Copied.{extended_by_copies}
use Rattle.rpds_tree.specs.OrderedSet.{OrderedSet, put_members}
use Rattle.rpds_tree.proofs.set.red_black_tree_set.std_traits.RedBlackTreeSetExtendRef.extend.Goals as goal

pub returns : goal.returns
returns g c =
    let gives = g.U.IntoIterator.into_iter_gives c.args.iter in
    record {
      ran = extended_by_copies g.U.IntoIter.Iterator.next_gives gives (λ more. c.extend.new.self.members ≡ put_members g.T.Ord.cmp c.args.self.now.members more) c.copied.result c.into_iter-items.result c.copied.ensures.source c.into_iter-items.ensures.into_iter_gives c.extend.result c.extend.ensures.ok
          (on_err_weaker c.extend.result (λ h. ap (λ (s : OrderedSet _). s.members) h) c.extend.ensures.err);
    }
