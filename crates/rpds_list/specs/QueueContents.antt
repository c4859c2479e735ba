-- What a queue holds, and what ops make of it.
use Rattle.std.specs.Prelude.{ℕ, ◌+◌, List, [], ◌∷◌, ◌++◌, length, drop, Bool, true, false, if◌then◌else◌, nat_lt}
use Rattle.rpds_list.specs.declared.queue.replay.QueueOp.{QueueOp}
use Rattle.rpds_list.specs.declared.queue.replay.QueueOp.TheVariants.{Enqueue, Dequeue}

-- the items of a queue, the front first, and how many of them wait in its in list
pub record Contents (T : Type 0) : Type 0 where
  pub items : List T
  pub waiting : ℕ

-- nothing at all
abbrev pub empty : {T : Type 0} → Contents T
empty = record { items = []; waiting = 0 }

-- how many wait once the first item is taken: as many as before where the out list has it, and none where all the
-- items wait
abbrev pub still_waiting : {T : Type 0} → Contents T → ℕ
still_waiting q = if nat_lt q.waiting (length q.items) then q.waiting else 0

-- the items after an op
abbrev pub items_after : {T : Type 0} → List T → QueueOp T → List T
items_after xs (Enqueue x) = xs ++ x ∷ []
items_after xs Dequeue = drop 1 xs

-- the items and how many of them wait, after an op
abbrev pub contents_after : {T : Type 0} → Contents T → QueueOp T → Contents T
contents_after q (Enqueue x) = record { items = q.items ++ x ∷ []; waiting = q.waiting + 1 }
contents_after q Dequeue = record { items = drop 1 q.items; waiting = still_waiting q }

-- the op puts an item in
abbrev pub is_enqueue : {T : Type 0} → QueueOp T → Bool
is_enqueue (Enqueue x) = true
is_enqueue Dequeue = false
