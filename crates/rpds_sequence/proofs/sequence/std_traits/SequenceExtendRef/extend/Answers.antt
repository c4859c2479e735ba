use Rattle.std.proofs.Common.{◌≡◌, ◌++◌, sym, ◌∙◌}
use Rattle.std.proofs.lemmas.List.{append-nil}
use Rattle.std.proofs.lemmas.Result.{on_err_weaker}
use Rattle.rpds_core.proofs.Copied.{extended_by_copies}
use Rattle.rpds_sequence.proofs.sequence.std_traits.SequenceExtendRef.extend.Goals as goal

pub returns : goal.returns
returns g c =
    let gives = g.U.IntoIterator.into_iter_gives c.args.iter in
    record {
      ran = extended_by_copies g.U.IntoIter.Iterator.next_gives gives (λ more. c.extend.new.self ≡ c.args.self.now ++ more) c.copied.result c.into_iter-items.result c.copied.ensures.source c.into_iter-items.ensures.into_iter_gives c.extend.result c.extend.ensures.ok
          (on_err_weaker c.extend.result (λ h. h ∙ sym (append-nil c.args.self.now)) c.extend.ensures.err);
    }
