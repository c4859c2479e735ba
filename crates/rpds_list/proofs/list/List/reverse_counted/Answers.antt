use Rattle.std.proofs.Common.{rules, refl, arith}
use Rattle.rpds_list.proofs.list.List.reverse_counted.Goals as goal

pub loop-link-init : goal.loop-link-init
loop-link-init g c = rw (c.new-reversed.ensures, ← c.self.view_is) (refl, omega arith, omega arith, refl)

pub loop-link-preserved : goal.loop-link-preserved
loop-link-preserved g c = search rules
