use Rattle.std.proofs.Common.{◌≡◌, ◌++◌, [], length}
use Rattle.rpds_core.specs.WalkStack.{from_top, HasRoom}
use Rattle.rpds_hash_trie.specs.Places.{behind}
use Rattle.rpds_hash_trie.specs.HashWalk.{flatten, given, AllFit, Fits}
use Rattle.rpds_hash_trie.proofs.WalkRows.{levels_left}
use Rattle.rpds_hash_trie.proofs.walk.Walk.next.Given as goal

abbrev pub invariant-loop-node : goal.invariant-loop-node
invariant-loop-node g l = record {
  used : l.self-inside.others.now ≡ [];
  room : HasRoom Fits l.self-inside.stack;
  fits : AllFit (length l.self-inside.stack) (behind l.row);
  rest : flatten (behind l.row) ++ from_top given l.self-inside.stack ≡ l.fn.self;
  none : l.row ≡ [] → (l.self-inside.row.now ≡ []) × (from_top given l.self-inside.stack ≡ []);
}

abbrev pub decreases-loop-node : goal.decreases-loop-node
decreases-loop-node g l = levels_left (behind l.row)
