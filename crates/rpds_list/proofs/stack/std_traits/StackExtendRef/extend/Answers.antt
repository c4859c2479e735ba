use Rattle.std.proofs.Common.{◌≡◌, ◌++◌, reverse}
use Rattle.rpds_core.proofs.Copied.{extended_by_copies}
use Rattle.rpds_list.proofs.stack.std_traits.StackExtendRef.extend.Goals as goal

pub returns : goal.returns
returns g c =
    let gives = g.U.IntoIterator.into_iter_gives c.args.iter in
    record {
      ran = extended_by_copies g.U.IntoIter.Iterator.next_gives gives (λ more. c.extend.new.self ≡ reverse more ++ c.args.self.now) c.copied.result c.into_iter-items.result c.copied.ensures.source c.into_iter-items.ensures.into_iter_gives c.extend.result c.extend.ensures.ok
          (c.extend.ensures.err);
    }
