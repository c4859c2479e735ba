use Rattle.rpds_red_black.proofs.Words.{◌+◌, ◌*◌}
use Rattle.rpds_red_black.proofs.tree.Tree.+combine_few.Given as goal

abbrev pub decreases-combine_few : goal.decreases-combine_few
decreases-combine_few g l = 2 * l.self.now.depth + 1

abbrev pub decreases-combine_many : goal.decreases-combine_many
decreases-combine_many g l = 2 * l.self.now.depth
