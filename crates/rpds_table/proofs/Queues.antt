-- Equal queues have equal outcomes.
use Rattle.std.proofs.Common.{◌∙◌, refl, sym, length, ◌+◌}
use Rattle.rpds_list.specs.QueueContents.{Contents}
use Rattle.rpds_table.specs.Outcomes.{SameOutcome}
use Rattle.rpds_table.specs.Kinds.Queues.{Same, outcome_of_op, behaviour}
use Rattle.rpds_table.proofs.Lawful.{IsLawful, empty_alike, ops_respect, room_alike}
use Rattle.rpds_table.specs.declared.table.op.Op.{Op}
use Rattle.rpds_table.specs.declared.table.op.Op.TheVariants.{Enqueue, Dequeue}

queue_respects : {K V : Type 0} (op : Op K V) (p q : Contents V) → Same p q → SameOutcome Same (outcome_of_op p op) (outcome_of_op q op)
queue_respects {V = V} (Enqueue x) p q e = rw e (room_alike (Same {V = V}) _ _ refl (length q.items + 1))
queue_respects {V = V} Dequeue p q e = rw e (empty_alike (Same {V = V}) _ _ refl q.items)
queue_respects op p q e = tt

pub queue_is_lawful : (K V H A : Type 0) → IsLawful {K = K} {V = V} {H = H} {A = A} behaviour
queue_is_lawful K V H A = record {
  same = λ p. refl;
  symm = λ p q e. sym e;
  trans = λ p q r d e. d ∙ e;
  op_respects = λ keys. queue_respects;
  edit_respects = λ keys edit p q e. ops_respect _ _ _ (λ op. queue_respects op p q e) edit;
  op_budget = λ op p q e. refl;
  edit_budget = λ edit p q e. refl;
}
