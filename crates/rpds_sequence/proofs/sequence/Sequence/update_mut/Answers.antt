use Rattle.std.proofs.Common.{Ok, refl, subst, ◌∙◌}
use Rattle.std.proofs.lemmas.Fn.{gave_at}
use Rattle.std.proofs.lemmas.Option.{same_Some, slice_get_within}
use Rattle.std.proofs.lemmas.Result.{on_ok_weaker}
use Rattle.std.specs.Fn.{FnOnceReturnsAt}
use Rattle.rpds_sequence.proofs.sequence.Sequence.update_mut.Goals as goal

pub returns-in_ok-value-in-Some-clause-ok : goal.returns-in_ok-value-in-Some-clause-ok
returns-in_ok-value-in-Some-clause-ok g c = λ x at.
    let gave = subst (λ y. FnOnceReturnsAt g.F.FnOnce c.args.change y (Ok c.in_ok-value-in-Some.value)) (same_Some c.in-Some.item.now x (c.in-Some.ensures ∙ at)) (gave_at g.F.FnOnce c.in_ok-value-in-Some.ensures refl) in
    on_ok_weaker c.set_mut.result (λ new. (c.in_ok-value-in-Some.value, gave, new)) (c.set_mut.ensures.ok (slice_get_within c.args.self.now c.args.index x at))
