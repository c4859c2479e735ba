use Rattle.rpds_red_black.proofs.Ranks.{rank_levels}
use Rattle.rpds_red_black.proofs.join.Measured.of_slice.Goals as goal

pub returns-clause-low : goal.returns-clause-low
returns-clause-low g c = rank_levels c.in_ok-tree.tree c.prove_sound.ensures c.in_ok-tree.ensures.black
