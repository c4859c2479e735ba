use Rattle.std.proofs.Common.{[], ◌∷◌, rules}
use Rattle.std.proofs.KnownBytes.{Appends-nil}
use Rattle.std.proofs.lemmas.Result.{on_ok_weaker}
use Rattle.rpds_lines.proofs.Sessions.{answers_none, answers_rest, written_one}
use Rattle.rpds_lines.proofs.serve.Session.finish.Goals as goal

pub returns-then-is_empty-clause-line : goal.returns-then-is_empty-clause-line
returns-then-is_empty-clause-line g c = ([], answers_none _ _ (search rules), Appends-nil _)

pub returns-clause-line : goal.returns-clause-line
returns-clause-line g c =
    on_ok_weaker c.answer.result
    (λ answered. (answered.0 ∷ [], answers_rest _ _ _ _ (search rules) answered.1, written_one _ _ _ answered.2))
    c.answer.ensures.answer
