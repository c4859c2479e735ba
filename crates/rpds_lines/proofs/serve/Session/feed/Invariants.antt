-- `feed` has answered the lines that end in what lies before `rest`.
use Rattle.std.proofs.Common.{◌≡◌, ℕ, List, ◌++◌, length}
use Rattle.rpds_lines.specs.Sessions.{AnswersMore}
use Rattle.rpds_lines.proofs.serve.Session.feed.Given as goal

abbrev pub invariant-loop-end : goal.invariant-loop-end
invariant-loop-end g l = (done : List ℕ) × (l.bytes ≡ done ++ l.rest)
    × AnswersMore l.fn.self.state l.fn.self.line (g.W.Write.contents l.fn.writer) done l.self.state l.self.line (g.W.Write.contents l.writer)

abbrev pub decreases-loop-end : goal.decreases-loop-end
decreases-loop-end g l = length l.rest
