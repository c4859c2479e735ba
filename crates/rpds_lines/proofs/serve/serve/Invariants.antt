-- `serve` has answered the whole lines of what it read, and the session keeps what stands for the rest.
use Rattle.std.proofs.Common.{ℕ, List}
use Rattle.std.specs.Io.KnownBytes.{Consumes}
use Rattle.rpds_lines.specs.Sessions.{AnswersWhole}
use Rattle.rpds_lines.specs.Kept.{StandsFor}
use Rattle.rpds_lines.specs.SessionState.{empty_state}
use Rattle.rpds_lines.proofs.serve.serve.Given as goal

abbrev pub invariant-loop : goal.invariant-loop
invariant-loop g l = (bytes : List ℕ) × Consumes (g.R.Read.remaining l.fn.reader) (g.R.Read.remaining l.reader) bytes
    × (rest : List ℕ) × StandsFor l.session.line rest
    × AnswersWhole empty_state (g.W.Write.contents l.fn.writer) bytes l.session.state (g.W.Write.contents l.writer) rest
