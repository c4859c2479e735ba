use Rattle.std.proofs.Common.{◌≡◌, true, arith}
use Rattle.std.proofs.lemmas.Grind.{common_steps}
use Rattle.rpds_serde.proofs.read.ItemsComes.next.Goals as goal

pub returns : goal.returns
returns g c =
    let more : c.in_ok-next_item.field-0 ≡ true = grind (arith, common_steps) in
    (c.next_item.new.self, rw more at c.in_ok-next_item.ensures, c.in_ok-read.ensures)
