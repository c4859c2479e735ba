use Rattle.rpds_red_black.proofs.Words.{◌+◌, ◌*◌, depth_of}
use Rattle.rpds_red_black.proofs.place.+place.Given as goal

abbrev pub decreases-place_in : goal.decreases-place_in
decreases-place_in g l = 2 * depth_of l.node.now + 1

abbrev pub decreases-place_near : goal.decreases-place_near
decreases-place_near g l = 2 * l.near.now.depth + 2
