use Rattle.rpds_red_black.proofs.Words.{◌≡◌, ◌+◌, ◌≤◌, ◌++◌, false, drop, length, from_top, HasRoom, given, Fits}
use Rattle.rpds_red_black.proofs.walk.push_behind.Given as goal

abbrev pub invariant-loop-node : goal.invariant-loop-node
invariant-loop-node g l = record {
  room : HasRoom (Fits false) l.stack;
  fits : length l.stack + l.tree.depth ≤ 128;
  size : l.size ≡ length l.tree.entries;
  within : l.position ≤ l.size;
  rest : drop l.position l.tree.entries ++ from_top (given false) l.stack ≡ drop l.fn.position l.fn.tree.entries ++ from_top (given false) l.initial.stack;
}

abbrev pub decreases-loop-node : goal.decreases-loop-node
decreases-loop-node g l = l.tree.depth
