use Rattle.std.proofs.Common.{◌≡◌, ◌++◌, sym, ap, ◌∙◌}
use Rattle.std.proofs.lemmas.List.{append-nil}
use Rattle.std.proofs.lemmas.Result.{on_err_weaker}
use Rattle.rpds_core.proofs.Copied.{extended_by_copies}
use Rattle.rpds_vector.proofs.vector.std_traits.VectorExtendRef.extend.Goals as goal

pub returns : goal.returns
returns g c =
    let gives = g.U.IntoIterator.into_iter_gives c.args.iter in
    record {
      ran = extended_by_copies g.U.IntoIter.Iterator.next_gives gives (λ more. c.extend.new.self ≡ record c.args.self.now { items = c.args.self.now.items ++ more }) c.copied.result c.into_iter-items.result c.copied.ensures.source c.into_iter-items.ensures.into_iter_gives c.extend.result c.extend.ensures.ok
          (on_err_weaker c.extend.result (λ h. h ∙ ap (λ z. record c.args.self.now { items = z }) (sym (append-nil c.args.self.now.items))) c.extend.ensures.err);
    }
