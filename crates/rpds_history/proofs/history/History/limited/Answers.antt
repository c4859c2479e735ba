use Rattle.std.proofs.Common.{◌≤◌, length, arith}
use Rattle.rpds_history.proofs.Versions.{limited}
use Rattle.rpds_history.proofs.history.History.limited.Goals as goal

pub returns : goal.returns
returns g c =
    let few : c.args.most ≤ length c.args.self.now.past = omega (arith, c.requires) in
    let back = rw (c.undo_len.ensures, c.in_ok-limited.ensures) at c.in_ok-walk_to.ensures in
    let forth = rw c.clear_past.ensures at c.in_ok-walk_to-2.ensures in
    limited c.args.most c.args.self.now c.walk_to.new.self c.walk_to-2.new.self few back forth
