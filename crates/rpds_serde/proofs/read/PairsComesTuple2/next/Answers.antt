use Rattle.std.proofs.Common.{◌≡◌, true, arith}
use Rattle.std.proofs.lemmas.Grind.{common_steps}
use Rattle.rpds_serde.proofs.read.PairsComesTuple2.next.Goals as goal

pub returns : goal.returns
returns g c =
    let more : c.in_ok-next_entry.field-0 ≡ true = grind (arith, common_steps) in
    (c.next_entry.new.self, c.read.new.from, rw more at c.in_ok-next_entry.ensures, c.in_ok-key.ensures, c.in_ok-value.ensures)
