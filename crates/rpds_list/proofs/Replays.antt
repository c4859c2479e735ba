-- What holds on the way of a queue's replay.
use Rattle.std.proofs.Common.{◌≡◌, ℕ, ◌+◌, List, [], fold, count_by, ap, ◌∙◌}
use Rattle.rpds_core.specs.declared.steps.Steps.{Steps}
use Rattle.rpds_list.specs.QueueContents.{Contents, empty, items_after, contents_after, is_enqueue}
use Rattle.rpds_list.specs.declared.queue.replay.QueueOp.{QueueOp}

-- q is the queue so far, and the ops in left are still to be run
pub record IsOnTheWay {T : Type 0} (all left : List (QueueOp T)) (q : Contents T) (start now : Steps) : Type 0 where
  pub items : fold items_after q.items left ≡ fold items_after [] all
  pub contents : fold contents_after q left ≡ fold contents_after empty all
  pub moved : now.moved + q.waiting + count_by is_enqueue left ≡ start.moved + count_by is_enqueue all
  pub none : count_by is_enqueue all ≡ 0 → (q.items ≡ []) × (count_by is_enqueue left ≡ 0)
  pub others : now ≡ record start { moved = now.moved }

-- nothing, part by part
abbrev holding : {T : Type 0} → List T → ℕ → Contents T
holding items waiting = record { items = items; waiting = waiting }

pub empty_is : {T : Type 0} (q : Contents T) → q.items ≡ [] → q.waiting ≡ 0 → q ≡ empty
empty_is q items waiting = ap (λ xs. holding xs q.waiting) items ∙ ap (λ n. holding [] n) waiting
