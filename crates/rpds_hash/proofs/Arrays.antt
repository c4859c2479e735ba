-- What the walk over a vector gives.
use Rattle.std.proofs.Common.{◌≡◌, List, sym, ◌∙◌, ap}
use Rattle.std.specs.Iterator.{Drains}
use Rattle.std.specs.Iterator.Runs.{EveryRun, ItemsAre}
use Rattle.std.proofs.iter.runs.Made.{run_of_exit}
use Rattle.std.specs.Vec.Iter.{into_iter_items, into_iter_steps}
use Rattle.std.specs.declared.vec.IntoIter.{IntoIter}

-- all its items, where it is drained
pub all_given : {X Z : Type 0} (it : IntoIter X Z) (items given : List X) → into_iter_items it ≡ items
    → EveryRun (into_iter_steps {X = X} {Z = Z}) (λ p. ItemsAre p (into_iter_items p.from)) → Drains into_iter_steps it given → given ≡ items
all_given it items given same runs drained =
    let run = run_of_exit into_iter_steps it given drained.1.0 drained.1.1 drained.0 drained.1.2 in
    sym run.3.0 ∙ (runs run.0 run.0.seen).4 run.2 ∙ ap into_iter_items run.1 ∙ same
