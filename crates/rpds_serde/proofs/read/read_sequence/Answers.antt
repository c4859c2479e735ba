use Rattle.std.proofs.lemmas.Result.{IfOk-weaker}
use Rattle.rpds_serde.proofs.read.read_sequence.Goals as goal

pub returns : goal.returns
returns g c =
    let each = c.in_ok-items.ensures in
    IfOk-weaker c.collected.result _ _ (λ made gives. (c.in_ok-items.items.items, (c.begin_seq.new.self, each.0, c.in_ok-begin_seq.ensures, each.1, each.2), gives)) c.collected.ensures
