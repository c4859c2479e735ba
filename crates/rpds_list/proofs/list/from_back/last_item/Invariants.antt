use Rattle.std.proofs.Common.{◌≡◌, ◌+◌, ◌<◌, ◌≤◌, ◌++◌, length, take, reverse, map}
use Rattle.rpds_list.specs.Chain.{items}
use Rattle.rpds_list.proofs.list.from_back.last_item.Given as goal

abbrev pub invariant-loop-left : goal.invariant-loop-left
invariant-loop-left g l = record {
  some : 0 < l.left;
  room : length l.near + l.left ≤ 64;
  within : l.left ≤ length (items l.rest);
  kept : reverse (take l.left (items l.rest)) ++ map (λ x. x.now) l.near ≡ reverse (take l.fn.count (items l.fn.link));
}

abbrev pub decreases-loop-left : goal.decreases-loop-left
decreases-loop-left g l = l.left
