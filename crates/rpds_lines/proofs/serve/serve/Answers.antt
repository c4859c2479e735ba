use Rattle.std.proofs.Common.{[], ◌++◌, IfErr, Result, Ok, Err, ap, sym, subst, rules}
use Rattle.std.proofs.lemmas.Result.{MatchResult-weaker, err_from_is_err_and, on_ok_weaker}
use Rattle.std.proofs.KnownBytes.{Consumes-nil, Consumes-kept, Consumes-trans}
use Rattle.rpds_lines.specs.Sessions.{AnswersWhole}
use Rattle.rpds_lines.specs.SessionState.{empty_state}
use Rattle.rpds_lines.specs.Faults.{IsOfRead}
use Rattle.rpds_lines.specs.declared.fault.Fault.TheVariants.{Read}
use Rattle.rpds_lines.proofs.Kept.{stands_new}
use Rattle.rpds_lines.proofs.Sessions.{all_read, input_answered, whole_both, whole_new}
use Rattle.rpds_lines.proofs.serve.serve.Goals as goal

-- the error, if it is one
abbrev err_or : {T E : Type 0} → E → Result T E → E
err_or other (Ok x) = other
err_or other (Err e) = e

pub loop-init : goal.loop-init
loop-init g c = ([], Consumes-nil _, [], stands_new _ c.in-Ok.ensures.line, whole_new _ _ c.in-Ok.ensures.state)

pub loop-preserved : goal.loop-preserved
loop-preserved g c =
    let before = c.loop.invariant in
    let turn = c.in_ok-serve_ready.ensures.lines in
    let more = turn.2 before.2 before.3 in (
      before.0 ++ turn.0,
      Consumes-trans _ _ _ _ _ before.1 turn.1,
      more.0,
      more.1,
      whole_both _ _ _ _ _ _ _ _ _ _ before.4 more.2,
    )

pub returns-in_err-serve_ready-clause-read : goal.returns-in_err-serve_ready-clause-read
returns-in_err-serve_ready-clause-read g c =
    let p = err_from_is_err_and c.from_residual.result c.from_residual.ensures.1 in
    rw (p.1, p.2) (λ is.
    let before = c.loop.invariant in
    let failed = c.in_err-serve_ready.ensures.read is in (
      before.0,
      Consumes-kept _ _ _ _ before.1 failed.0,
      c.loop.session.state,
      before.2,
      subst (λ w. AnswersWhole empty_state (g.W.Write.contents c.args.writer.now) before.0 c.loop.session.state (g.W.Write.contents w) before.2)
          (sym failed.1) before.4,
    ))

pub returns-in_err-serve_ready-clause-retried : goal.returns-in_err-serve_ready-clause-retried
returns-in_err-serve_ready-clause-retried g c =
    let p = err_from_is_err_and c.from_residual.result c.from_residual.ensures.1 in
    rw (p.1, p.2) (λ error is. c.in_err-serve_ready.ensures.retried error (ap Err (ap (err_or (Read error)) is)))

pub returns-then-branch-clause-served : goal.returns-then-branch-clause-served
returns-then-branch-clause-served g c =
    let before = c.loop.invariant in
    let turn = c.in_ok-serve_ready.ensures.lines in
    let more = turn.2 before.2 before.3 in
    let whole = whole_both _ _ _ _ _ _ _ _ _ _ before.4 more.2 in
    on_ok_weaker c.finish.result
    (λ last. all_read _ _ _ before.0 turn.0 _ before.1 turn.1 (c.in_ok-serve_ready.ensures.end (search rules))
    (input_answered _ _ _ _ _ last.0 _ _ whole (last.1 more.0 more.1) last.2))
    c.finish.ensures.line

pub returns-then-branch-clause-read : goal.returns-then-branch-clause-read
returns-then-branch-clause-read g c =
    MatchResult-weaker c.finish.result c.finish.ensures.fault (λ _ h. h) (λ fault not read. absurd (not read))

pub returns-then-branch-clause-retried : goal.returns-then-branch-clause-retried
returns-then-branch-clause-retried g c = λ error is.
    absurd (subst (λ r. IfErr r (λ fault. ¬ IsOfRead fault)) is c.finish.ensures.fault tt)

pub returns-clause-served : goal.returns-clause-served
returns-clause-served g c = search rules
