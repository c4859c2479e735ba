use Rattle.std.proofs.Common.{◌≡◌, ◌+◌, refl, arith}
use Rattle.rpds_list.proofs.list.in_place.raise_moved.Goals as goal

pub loop-i-init : goal.loop-i-init
loop-i-init c = let none : c.args.steps.now.moved + 0 ≡ c.args.steps.now.moved = omega arith in rw none refl
