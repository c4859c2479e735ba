use Rattle.std.proofs.Common.{[], ◌∷◌, ◌++◌, refl, sym, ap, ◌∙◌, append_assoc}
use Rattle.std.proofs.lemmas.Result.{on_ok_weaker}
use Rattle.rpds_lines.proofs.Kept.{stands_new}
use Rattle.rpds_lines.proofs.Sessions.{whole_begun, whole_more, whole_next, whole_same}
use Rattle.rpds_lines.proofs.serve.Session.feed.Goals as goal

pub loop-end-init : goal.loop-end-init
loop-end-init g c = ([], refl, λ line stands. (line, stands, whole_begun c.args.self.now.state _ line stands.unbroken))

pub loop-end-preserved : goal.loop-end-preserved
loop-end-preserved g c =
    let done = c.loop-end.invariant.0 in
    let end = c.in-Some.end.now in
    let after = c.in-Some.after.now in
    let answered = c.in_ok-answer.ensures.answer in (
      done ++ (end ++ 10 ∷ []),
      c.loop-end.invariant.1 ∙ ap (λ l. done ++ l) (c.in-Some.ensures.1 ∙ sym (append_assoc end (10 ∷ []) after))
          ∙ sym (append_assoc done (end ++ 10 ∷ []) after),
      λ line stands.
          let before = c.loop-end.invariant.2 line stands in (
            [],
            stands_new _ c.in_ok-answer.ensures.line,
            whole_same _ _ _ _ _ _ _ (append_assoc line done (end ++ 10 ∷ []))
                (whole_next _ _ _ _ _ _ _ end _ _ before.2 c.in-Some.ensures.0 (answered.1 before.0 before.1) answered.2),
          ),
    )

pub returns-clause-lines : goal.returns-clause-lines
returns-clause-lines g c =
    let done = c.loop-end.invariant.0 in
    let rest = c.loop-end.rest.now in
    rw c.push_bytes.ensures.state (on_ok_weaker c.push_bytes.result
    (λ pushed line stands.
    let before = c.loop-end.invariant.2 line stands in
    let kept = pushed before.0 before.1 in (
      before.0 ++ rest,
      kept,
      whole_same _ _ _ _ _ _ _ (append_assoc line done rest ∙ ap (λ l. line ++ l) (sym c.loop-end.invariant.1))
          (whole_more _ _ _ _ _ _ rest before.2 kept.unbroken),
    ))
    c.push_bytes.ensures.line)
