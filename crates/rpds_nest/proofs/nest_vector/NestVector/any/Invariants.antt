use Rattle.std.proofs.Common.{◌≡◌, Bool, length, drop}
use Rattle.std.specs.Borrow.{Bor}
use Rattle.std.specs.List.{list_any}
use Rattle.rpds_nest.proofs.nest_vector.NestVector.any.Given as goal

-- what is left decides
abbrev pub invariant-loop-index : goal.invariant-loop-index
invariant-loop-index g l = record {
  size : l.index-end ≡ length l.self;
  left : (holds : g.row.T.Denot → Bool) → ((x : Bor g.row.T.Denot) (r : Bool) → g.F.Fn.post l.test (x, tt) r → r ≡ holds x.now) → list_any holds (drop l.index l.self) ≡ list_any holds l.self;
}
