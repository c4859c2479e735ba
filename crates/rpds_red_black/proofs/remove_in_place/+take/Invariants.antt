use Rattle.rpds_red_black.proofs.Words.{◌+◌, ◌*◌, max}
use Rattle.rpds_red_black.proofs.remove_in_place.+take.Given as goal

abbrev pub decreases-take_with_red_far_nephew : goal.decreases-take_with_red_far_nephew
decreases-take_with_red_far_nephew g l = 8 * l.near.now.depth + 1

abbrev pub decreases-take_with_red_near_nephew : goal.decreases-take_with_red_near_nephew
decreases-take_with_red_near_nephew g l = 8 * l.near.now.depth + 1

abbrev pub decreases-take_with_black_sibling : goal.decreases-take_with_black_sibling
decreases-take_with_black_sibling g l = 8 * l.near.now.depth + 2

abbrev pub decreases-take_with_red_sibling : goal.decreases-take_with_red_sibling
decreases-take_with_red_sibling g l = 8 * l.near.now.depth + 3

abbrev pub decreases-take_from_near : goal.decreases-take_from_near
decreases-take_from_near g l = 8 * l.near.now.depth + 4

abbrev pub decreases-take_in : goal.decreases-take_in
decreases-take_in g l = 8 * max l.node.now.left.depth l.node.now.right.depth + 6

abbrev pub decreases-take : goal.decreases-take
decreases-take g l = 8 * l.tree.now.depth
