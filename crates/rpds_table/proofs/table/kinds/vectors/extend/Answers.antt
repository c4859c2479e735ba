use Rattle.std.proofs.Common.{rules, ap, sym, ◌∙◌, ◌++◌, ◌≡◌, ◌+◌, nat_lt, length, false}
use Rattle.std.proofs.IntoIterSteps.{All-taken}
use Rattle.rpds_table.specs.Outcomes.{greatest}
use Rattle.rpds_table.proofs.table.kinds.vectors.extend.Goals as goal

pub returns : goal.returns
returns g c =
    let ran = c.in_ok-extend.ensures.ok in
    let more = All-taken ran.0 ran.1 ran.3 ∙ ran.2.0 in
    let room : nat_lt greatest (length c.args.vector.now.items + length c.args.items.items) ≡ false = search rules in
    rw room (sym (ran.4 ∙ ap (λ xs. record c.args.vector.now { items = c.args.vector.now.items ++ xs }) more))
