use Rattle.std.proofs.Common.{◌≡◌, Some, codes, refl, sym, rules}
use Rattle.std.proofs.lemmas.Result.{on_ok_weaker}
use Rattle.rpds_lines.specs.Printed.{text_of_reply}
use Rattle.rpds_lines.specs.declared.parse.Request.TheVariants as requests
use Rattle.rpds_lines.proofs.state.State.answer.Goals as goal

pub returns-in-Some-Command : goal.returns-in-Some-Command
returns-in-Some-Command g c =
    let asked : c.args.request ≡ Some (requests.Command c.in-Some-Command.command) = search rules in
    let reply = c.apply-reply.result in
    rw (asked, sym c.self.view_is) (on_ok_weaker c.write_reply.result
    (λ appended. (text_of_reply reply, ((reply, c.apply-reply.ensures.transition, refl), refl), appended))
    c.write_reply.ensures)

pub returns-in-None : goal.returns-in-None
returns-in-None g c =
    rw c.in-None.is (on_ok_weaker c.write_bad_line.result (λ appended. (codes "bad line", (refl, refl), appended)) c.write_bad_line.ensures)

pub returns-in-Some-Show : goal.returns-in-Some-Show
returns-in-Some-Show g c = search rules
