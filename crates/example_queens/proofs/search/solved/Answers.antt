use Rattle.std.proofs.lemmas.Result.{IfOk-weaker}
use Rattle.example_queens.proofs.Extensions.{unsolvable}
use Rattle.example_queens.proofs.search.solved.Goals as goal

pub returns-clause-none : goal.returns-clause-none
returns-clause-none c =
    IfOk-weaker c.solved_from-2.result _ _ (λ found. unsolvable c.args.size found) (rw c.new.ensures at c.solved_from-2.ensures.none)
