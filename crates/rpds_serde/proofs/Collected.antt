-- What was read so far, and collected of it.
use Rattle.std.proofs.Common.{◌≡◌, List, [], ◌∷◌, ◌++◌, Result, IfOk, refl, sym, subst, ◌∙◌, ap}
use Rattle.std.proofs.lemmas.Result.{IfOk-weaker}
use Rattle.std.specs.Iterator.{DrainsIf}
use Rattle.std.specs.Iterator.Runs.{EveryRun, ItemsAre}
use Rattle.std.proofs.iter.runs.Made.{run_of_exit}
use Rattle.std.specs.Vec.Iter.{into_iter_items, into_iter_steps}
use Rattle.std.specs.declared.vec.IntoIter.{IntoIter}
use Rattle.rpds_serde.specs.Reading.{ReadsEach}

module _ {D X : Type 0} (reads : D → X → D → Type 0) where
  -- one more item
  pub reads_more : (xs : List X) (x : X) (old mid new : D) → ReadsEach reads xs old mid → reads mid x new → ReadsEach reads (xs ++ x ∷ []) old new
  reads_more [] x old mid new so next = (new, subst (λ m. reads m x new) so next, refl)
  reads_more (y ∷ xs) x old mid new so next = (so.0, so.1, reads_more xs x so.0 mid new so.2 next)

-- a container that takes all that comes is made of all items of the list
pub takes_all : {X Z : Type 0} (it : IntoIter X Z) (items taken : List X) → into_iter_items it ≡ items
    → EveryRun (into_iter_steps {X = X} {Z = Z}) (λ p. ItemsAre p (into_iter_items p.from))
    → DrainsIf into_iter_steps (Unit {0}) it taken → taken ≡ items
takes_all it items taken same runs drained =
    let end = drained.2 tt in
    let run = run_of_exit into_iter_steps it taken drained.0 drained.1 end.0 end.1 in
    sym run.3.0 ∙ (runs run.0 run.0.seen).4 run.2 ∙ ap into_iter_items run.1 ∙ same

-- what holds of each container that such items give
pub made_of : {C E X : Type 0} {Reads : List X → Type 0} {Gives : List X → C → Type 0} {Q : C → Type 0} (r : Result C E)
    → ((items : List X) (c : C) → Reads items → Gives items c → Q c) → IfOk r (λ c. (items : List X) × Reads items × Gives items c) → IfOk r Q
made_of {Reads = Reads} {Gives = Gives} {Q = Q} r f read = IfOk-weaker r (λ c. (items : List _) × Reads items × Gives items c) Q (λ c h. f h.0 c h.1 h.2) read
