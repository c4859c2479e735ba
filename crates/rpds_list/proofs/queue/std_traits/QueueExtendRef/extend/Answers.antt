use Rattle.std.proofs.Common.{◌≡◌, ◌+◌, [], ◌++◌, length, ◌∙◌, arith}
use Rattle.std.proofs.lemmas.List.{append-nil}
use Rattle.std.proofs.lemmas.Result.{on_err_weaker}
use Rattle.rpds_core.proofs.Copied.{extended_by_copies}
use Rattle.rpds_list.proofs.queue.std_traits.QueueExtendRef.extend.Goals as goal

pub returns : goal.returns
returns g c =
    let gives = g.U.IntoIterator.into_iter_gives c.args.iter in
    let none : c.args.self.now ≡ record { items = c.args.self.now.items ++ []; waiting = c.args.self.now.waiting + 0 } = grind (arith, append-nil c.args.self.now.items) in
    record {
      ran = extended_by_copies g.U.IntoIter.Iterator.next_gives gives (λ more. c.extend.new.self ≡ record { items = c.args.self.now.items ++ more; waiting = c.args.self.now.waiting + length more }) c.copied.result c.into_iter-items.result c.copied.ensures.source c.into_iter-items.ensures.into_iter_gives c.extend.result c.extend.ensures.ok
          (on_err_weaker c.extend.result (λ h. h ∙ none) c.extend.ensures.err);
    }
