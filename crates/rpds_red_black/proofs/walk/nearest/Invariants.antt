use Rattle.rpds_red_black.proofs.Words.{◌≡◌, ◌+◌, ◌≤◌, ◌++◌, length, from_top, HasRoom, depth_of, pairs_of, along, given, Fits}
use Rattle.rpds_red_black.proofs.walk.nearest.Given as goal

abbrev pub invariant-loop-node : goal.invariant-loop-node
invariant-loop-node g l = record {
  room : HasRoom (Fits g.D.Direction.back) l.stack;
  fits : length l.stack + depth_of l.node ≤ 128;
  rest : along g.D.Direction.back (pairs_of l.node) ++ from_top (given g.D.Direction.back) l.stack ≡ along g.D.Direction.back l.fn.tree.entries
      ++ from_top (given g.D.Direction.back) l.initial.stack;
}

abbrev pub decreases-loop-node : goal.decreases-loop-node
decreases-loop-node g l = depth_of l.node
