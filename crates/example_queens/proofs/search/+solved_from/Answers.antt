use Rattle.std.proofs.Common.{ℕ, ◌+◌, ◌<◌, ◌∷◌, subst, arith, below_more}
use Rattle.std.proofs.lemmas.Option.{IfSome_then}
use Rattle.std.proofs.lemmas.Result.{IfOk-weaker}
use Rattle.example_queens.specs.Queens.{GoesOn, IsDeadEnd}
use Rattle.example_queens.proofs.Extensions.{goes_before, goes_further, none_goes_on, none_there}
use Rattle.example_queens.proofs.search.+solved_from.Goals as goal
use Rattle.example_queens.proofs.search.+solved_from.Goals.{then-is_free+in_ok-with_queen+in-Ok-None+in-Ok-found-3+in-Some-1, then-is_free+in_ok-with_queen+in-Ok-None+in-Ok-found-3+in-None-1, then-is_free+in_ok-with_queen+in-Ok-None+in-Err-1, else-is_free}

pub returns-in_default-clause-found : goal.returns-in_default-clause-found
returns-in_default-clause-found t c =
    let size = c.args.size in
    let with-queen = c.in_ok-with_queen.ensures in
    IfOk-weaker c.solved_from-found.result _ _
    (λ found some. IfSome_then found some (λ queens goes. goes_before size c.loop-column.column c.args.board.now queens (subst (λ first. GoesOn size first queens) with-queen goes)))
    c.solved_from-found.ensures.found

pub loop-column-preserved : goal.loop-column-preserved
loop-column-preserved t c =
    let size = c.args.size in
    let with-queen : IsDeadEnd size (c.loop-column.column ∷ c.args.board.now) → (earlier : ℕ) → earlier < c.loop-column.column + 1 → IsDeadEnd size (earlier ∷ c.args.board.now) =
    below_more _ _ c.loop-column.invariant in
    elim c.if-is_free.branch [
      | then-is_free+in_ok-with_queen+in-Ok-None+in-Ok-found-3+in-Some-1 w ↦ with-queen (subst (IsDeadEnd size) w.in_ok-with_queen.ensures (none_there w.in-Ok-None.field-0 (rw w.in-Ok-None.is at w.in-Ok-None.field-0-is) (rw w.in-Ok-None.is at w.solved_from-found.ensures.none)))
      | then-is_free+in_ok-with_queen+in-Ok-None+in-Ok-found-3+in-None-1 w ↦ with-queen (subst (IsDeadEnd size) w.in_ok-with_queen.ensures (none_there w.in-Ok-None.field-0 (rw w.in-Ok-None.is at w.in-Ok-None.field-0-is) (rw w.in-Ok-None.is at w.solved_from-found.ensures.none)))
      | then-is_free+in_ok-with_queen+in-Ok-None+in-Err-1 w ↦ with-queen (subst (IsDeadEnd size) w.in_ok-with_queen.ensures (none_there w.in-Ok-None.field-0 (rw w.in-Ok-None.is at w.in-Ok-None.field-0-is) (rw w.in-Ok-None.is at w.solved_from-found.ensures.none)))
      | else-is_free w ↦ with-queen (none_goes_on size (c.loop-column.column ∷ c.args.board.now) (rw w.if-is_free.false at c.is_free.ensures))
    ]

pub returns-clause-none : goal.returns-clause-none
returns-clause-none t c = λ queens goes.
    let w = goes_further c.args.size c.args.board.now queens (omega (arith, c.rows.ensures.rows, c.if-rows-size.false, c.requires.room)) goes in
    c.loop-column.invariant w.0 (omega (arith, c.loop-column-test.false, w.1)) queens w.2
