use Rattle.std.proofs.Common.{◌≡◌, length, drop}
use Rattle.std.specs.Borrow.{Bor}
use Rattle.std.specs.List.{fold}
use Rattle.rpds_nest.proofs.nest_vector.NestVector.fold.Given as goal

-- what is left decides
abbrev pub invariant-loop-index : goal.invariant-loop-index
invariant-loop-index g l = record {
  size : l.index-end ≡ length l.self;
  left : (f : g.row.R.Denot → g.row.T.Denot → g.row.R.Denot)
      → ((value : g.row.R.Denot) (x : Bor g.row.T.Denot) (r : g.row.R.Denot) → g.F.Fn.post l.step (value, (x, tt)) r → r ≡ f value x.now)
      → fold f l.value (drop l.index l.self) ≡ fold f l.fn.start l.self;
}
