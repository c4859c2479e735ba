use Rattle.std.proofs.Common.{refl, ap, ◌∙◌, Some, arith}
use Rattle.std.proofs.lemmas.Grind.{common_steps}
use Rattle.rpds_list.proofs.Fronts.{left_nil, length_rest, taken_off}
use Rattle.rpds_list.proofs.queue.Queue.dequeue_counted.Goals as goal

pub returns-in_err-out_list-clause-empty : goal.returns-in_err-out_list-clause-empty
returns-in_err-out_list-clause-empty g c = λ none.
    let ok = c.in_err-out_list.ensures.empty (left_nil _ _ (ap (λ q. q.items) c.self.view_is ∙ none)) in
    absurd (cc ok)

pub invariant_of-result : goal.invariant_of-result
invariant_of-result g c =
    let out = length_rest _ _ _ _ c.in_ok-out_list.ensures.ok c.in_ok-out_list.ensures.empty refl c.in-Some.is in
    rw c.in_ok-clone.ensures (omega arith)

pub returns-in-Some-clause-ok : goal.returns-in-Some-clause-ok
returns-in-Some-clause-ok g c = λ some.
    ap Some (taken_off _ _ _ _ _ _ _ c.in_ok-out_list.ensures.ok c.in_ok-out_list.ensures.empty refl c.in-Some.is c.in_ok-clone.ensures c.self.view_is)

pub returns-clause-ok : goal.returns-clause-ok
returns-clause-ok g c = grind (arith, common_steps)
