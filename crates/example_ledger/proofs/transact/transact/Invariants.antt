use Rattle.std.proofs.Common.{◌≡◌, ℕ, List, ◌++◌, length, take}
use Rattle.example_ledger.specs.Changed.{IsMapAt, changed}
use Rattle.example_ledger.proofs.transact.transact.Given as goal

abbrev pub invariant-loop-op : goal.invariant-loop-op
invariant-loop-op l = record {
  stay : take (length l.fn.table.versions) l.table.versions ≡ l.fn.table.versions;
  draft : l.draft ≡ length l.fn.table.versions;
  rest : l.fn.ops.items ≡ l.yielded ++ l.op-iterator.rest.items;
  changed : (pairs : List (ℕ × ℕ)) → IsMapAt l.version pairs l.fn.table → IsMapAt l.draft (changed pairs l.yielded) l.table;
}
