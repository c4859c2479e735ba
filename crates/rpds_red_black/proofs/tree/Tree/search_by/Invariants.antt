use Rattle.std.specs.Fn.{ComputesKey}
use Rattle.rpds_red_black.proofs.Words.{◌≡◌, ◌+◌, ◌≤◌, length, keys_of, Ordering}
use Rattle.rpds_red_black.proofs.Searching.{LieBehind, Narrowed}
use Rattle.rpds_red_black.proofs.tree.Tree.search_by.Given as goal

abbrev pub invariant-loop-node : goal.invariant-loop-node
invariant-loop-node g l = record {
  callable : goal.F-IsAlwaysCallable g l.order;
  size : l.size ≡ length l.tree.entries;
  bounded : l.before + l.size ≤ length l.fn.self.entries;
  lie : LieBehind l.before l.tree.entries l.fn.self.entries;
  narrowed : (ord : g.row.K.Denot → Ordering) → ComputesKey g.F.FnMut ord l.fn.order
      → ComputesKey g.F.FnMut ord l.order × Narrowed ord (keys_of l.fn.self.entries) l.before l.size;
}

abbrev pub decreases-loop-node : goal.decreases-loop-node
decreases-loop-node g l = l.tree.depth
