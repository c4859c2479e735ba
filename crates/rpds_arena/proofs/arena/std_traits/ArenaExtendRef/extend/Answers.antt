use Rattle.std.proofs.Common.{◌≡◌, ◌++◌, sym, ap, ◌∙◌}
use Rattle.std.proofs.lemmas.List.{append-nil}
use Rattle.std.proofs.lemmas.Result.{on_err_weaker, on_ok_weaker}
use Rattle.rpds_core.proofs.Copied.{extended_by_copies}
use Rattle.rpds_arena.proofs.arena.std_traits.ArenaExtendRef.extend.Goals as goal

pub returns : goal.returns
returns g c =
    let gives = g.U.IntoIterator.into_iter_gives c.args.iter in
    record {
      ran = extended_by_copies g.U.IntoIter.Iterator.next_gives gives (λ more. c.extend.new.self.items ≡ c.args.self.now ++ more) c.copied.result c.into_iter-items.result c.copied.ensures.source c.into_iter-items.ensures.into_iter_gives c.extend.result
          (on_ok_weaker c.extend.result (λ h. (h.0, h.1, h.2, h.3, ap (λ v. v.items) h.4 ∙ ap (λ items. items ++ h.1) c.self.view_is)) c.extend.ensures.ok)
          (on_err_weaker c.extend.result (λ h. ap (λ v. v.items) h ∙ c.self.view_is ∙ sym (append-nil c.args.self.now)) c.extend.ensures.err);
    }
