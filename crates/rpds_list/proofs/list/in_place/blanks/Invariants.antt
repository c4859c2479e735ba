use Rattle.std.proofs.Common.{◌≡◌, ◌≤◌, length, vec_len, vec_capacity}
use Rattle.rpds_list.proofs.list.in_place.blanks.Given as goal

abbrev pub invariant-loop-i : goal.invariant-loop-i
invariant-loop-i g l = (length l.held.items ≡ l._i) × (vec_len l.held ≡ l._i) × (l.count ≤ vec_capacity l.held)
