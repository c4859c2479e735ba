use Rattle.std.proofs.Common.{◌≡◌, ◌++◌, ◌∷◌, [], List, fold}
use Rattle.std.specs.Borrow.{Bor}
use Rattle.rpds_arena.proofs.arena.Arena.fold.Given as goal

-- what is left decides
abbrev pub invariant-loop-item : goal.invariant-loop-item
invariant-loop-item g l =
    (f : List g.row.R.Denot → g.row.T.Denot → g.row.R.Denot)
    → ((older : Bor (List g.row.R.Denot)) (item : Bor g.row.T.Denot) (r : g.row.R.Denot) → g.F.Fn.post l.step (older, (item, tt)) r → r ≡ f older.now item.now)
    → fold (λ rs x. rs ++ f rs x ∷ []) l.all.items l.item-iterator ≡ fold (λ rs x. rs ++ f rs x ∷ []) [] l.self
