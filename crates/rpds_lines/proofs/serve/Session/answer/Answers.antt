use Rattle.std.proofs.Common.{◌≡◌, ◌≢◌, ℕ, List, [], ◌++◌, ap, sym, subst, ◌∙◌, rules}
use Rattle.rpds_lines.specs.Kept.{StandsFor}
use Rattle.rpds_lines.proofs.Kept.{kept_is_read, stands_after, stands_all, stands_none}
use Rattle.rpds_lines.proofs.Printed.{OnOk_written}
use Rattle.rpds_lines.proofs.serve.Session.answer.Goals as goal
use Rattle.rpds_lines.proofs.serve.Session.answer.Goals.{then-not-is_empty+in_ok-push_bytes, else-not-is_empty}

pub returns-clause-answer : goal.returns-clause-answer
returns-clause-answer g c =
    let begun = c.args.self.now.line in
    let end = c.args.end.now in
    let read : (line : List ℕ) → StandsFor begun line → StandsFor c.nonempty_or-line.result.now (line ++ end) = elim c.if-not-is_empty.branch [
      | then-not-is_empty+in_ok-push_bytes w ↦ (λ line stands.
          let all = w.in_ok-push_bytes.ensures.line line stands in
          let kept = c.as_slice.ensures ∙ ap (λ s. s.line) w.self-is in
          let some : begun ≢ [] = search rules in
          let some_kept : c.as_slice.result.now ≢ [] = λ none. stands_after begun line _ end stands some all (sym kept ∙ none) in
          subst (λ bytes. StandsFor bytes (line ++ end)) (sym (c.nonempty_or-line.ensures.some some_kept ∙ kept)) all)
      | else-not-is_empty w ↦ (λ line stands.
          let none : begun ≡ [] = search rules in
          let kept = c.as_slice.ensures ∙ ap (λ s. s.line) w.self-is in
          subst (λ bytes. StandsFor bytes (line ++ end)) (sym (c.nonempty_or-line.ensures.none (kept ∙ none)))
          (stands_all line end (stands_none begun line stands none) c.requires))
    ] in
    let state : c.if-not-is_empty.self.state ≡ c.args.self.now.state = elim c.if-not-is_empty.branch
    [ then-not-is_empty+in_ok-push_bytes w ↦ search rules | else-not-is_empty w ↦ search rules ] in
    rw (← state) (OnOk_written c.answer.result c.write_outcome.result c.write_outcome.ensures.ok c.answer.ensures
    (λ h. (h.0, λ line stands. (c.in-Ok.request, kept_is_read _ _ _ (read line stands) c.in-Ok.ensures.request, h.1), h.2)))

pub returns-clause-line : goal.returns-clause-line
returns-clause-line g c = search rules
