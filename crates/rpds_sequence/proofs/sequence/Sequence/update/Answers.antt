use Rattle.std.proofs.Common.{◌≡◌, Ok, Some, refl, set, subst, ◌∙◌}
use Rattle.std.proofs.lemmas.Result.{IfOk-weaker}
use Rattle.std.proofs.lemmas.Fn.{gave_at}
use Rattle.std.proofs.lemmas.Option.{same_Some, slice_get_within}
use Rattle.std.specs.Fn.{FnOnceReturnsAt}
use Rattle.rpds_sequence.proofs.sequence.Sequence.update.Goals as goal

pub returns-in_ok-change-in-Some-clause-ok : goal.returns-in_ok-change-in-Some-clause-ok
returns-in_ok-change-in-Some-clause-ok g c = λ x at.
    let value = c.in_ok-change-in-Some.field-0 in
    let gave = subst (λ y. FnOnceReturnsAt g.F.FnOnce c.args.change y (Ok value)) (same_Some c.in-Some.item.now x (c.in-Some.ensures ∙ at)) (gave_at g.F.FnOnce c.in_ok-change-in-Some.ensures refl) in
    IfOk-weaker c.set.result (λ s. s ≡ Some (set c.args.self.now c.args.index value)) (λ s. (new : g.row.T.Denot) × FnOnceReturnsAt g.F.FnOnce c.args.change x (Ok new) × (s ≡ Some (set c.args.self.now c.args.index new)))
    (λ s is. (value, gave, is)) (c.set.ensures.ok (slice_get_within c.args.self.now c.args.index x at))
