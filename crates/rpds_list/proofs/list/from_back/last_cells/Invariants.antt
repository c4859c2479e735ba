use Rattle.std.proofs.Common.{◌≡◌, ◌-◌, ◌^◌, ◌<◌, ◌≤◌, ◌++◌, length, take}
use Rattle.rpds_core.specs.WalkStack.{HasRoom}
use Rattle.rpds_list.specs.Chain.{items}
use Rattle.rpds_list.specs.Stretches.{items_of, Fits, to_top}
use Rattle.rpds_list.proofs.list.from_back.last_cells.Given as goal

abbrev pub invariant-loop-left : goal.invariant-loop-left
invariant-loop-left g l = record {
  some : 0 < l.left;
  within : l.left ≤ length (items l.rest);
  room : HasRoom Fits l.stretches;
  fits : l.left ≤ 2 ^ (64 - length l.stretches);
  kept : to_top items_of l.stretches ++ take l.left (items l.rest) ≡ to_top items_of l.fn.stretches ++ take l.fn.count (items l.fn.link);
}

abbrev pub decreases-loop-left : goal.decreases-loop-left
decreases-loop-left g l = l.left
