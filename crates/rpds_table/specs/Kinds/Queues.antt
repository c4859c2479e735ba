-- A queue as a version. How many of its items wait is no part of its value.
use Rattle.std.specs.Prelude.{◌≡◌, ◌+◌, [], ◌∷◌, ◌++◌, length, drop}
use Rattle.rpds_list.specs.QueueContents.{Contents}
use Rattle.rpds_list.specs.QueueText.{queue_text}
use Rattle.rpds_table.specs.KindWords.{of_items, of_two_sequences, if_room, unless_empty, Behaviour, plain, Op, Outcome, Unfit}
use Rattle.rpds_table.specs.declared.table.op.Op.TheVariants as ops

abbrev pub Same : {V : Type 0} → Contents V → Contents V → Type 0
Same p q = p.items ≡ q.items

abbrev pub outcome_of_op : {K V : Type 0} → Contents V → Op K V → Outcome (Contents V)
outcome_of_op q (ops.Enqueue x) = if_room (length q.items + 1) (record q { items = q.items ++ x ∷ [] })
outcome_of_op q ops.Dequeue = unless_empty q.items (record q { items = drop 1 q.items })
outcome_of_op q op = Unfit

abbrev pub behaviour : {K V H A : Type 0} → Behaviour K V H A (Contents V)
behaviour =
    plain Same (λ keys. outcome_of_op) (λ keys q. of_items q.items) (λ keys values p q. of_two_sequences values p.items q.items) (λ key_text value_text q. queue_text value_text q.items)
