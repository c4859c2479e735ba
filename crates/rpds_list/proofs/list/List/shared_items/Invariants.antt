use Rattle.std.proofs.Common.{◌≡◌, ◌++◌, ◌+◌, ◌≤◌, length, vec_len, vec_capacity}
use Rattle.rpds_core.specs.Rows.{behind}
use Rattle.rpds_list.specs.Chain.{items}
use Rattle.rpds_list.proofs.list.List.shared_items.Given as goal

abbrev pub invariant-loop-link : goal.invariant-loop-link
invariant-loop-link g l =
    (behind l.items.items ++ items l.link ≡ l.self) × (vec_len l.items + length (items l.link) ≡ length l.self)
    × (length l.self ≤ vec_capacity l.items)
