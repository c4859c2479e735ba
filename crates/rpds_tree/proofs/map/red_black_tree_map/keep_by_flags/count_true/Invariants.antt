use Rattle.std.proofs.Common.{filter}
use Rattle.rpds_tree.proofs.Words.{◌≡◌, ◌+◌, drop, length}
use Rattle.rpds_tree.proofs.map.red_black_tree_map.keep_by_flags.count_true.Given as goal

abbrev pub invariant-loop-flag : goal.invariant-loop-flag
invariant-loop-flag l = l.count + length (filter (λ b. b) (drop l.flag-index l.flags)) ≡ length (filter (λ b. b) l.flags)
