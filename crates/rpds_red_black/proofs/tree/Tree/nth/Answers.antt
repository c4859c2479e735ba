use Rattle.rpds_red_black.proofs.Words.{◌≡◌, ◌+◌, max, length, length-append, pair_of, ap, refl, inl, inr, sym, ◌∙◌, arith}
use Rattle.rpds_red_black.proofs.Counts.{visited_once}
use Rattle.rpds_red_black.proofs.Node.{seen}
use Rattle.rpds_red_black.proofs.PairPositions.{at_left, at_right}
use Rattle.rpds_red_black.proofs.tree.Tree.nth.Goals as goal

pub loop-tree-init : goal.loop-tree-init
loop-tree-init g c = record {
  size = c.requires;
  at = refl;
  visited = omega arith;
  least = omega arith;
  some = inl refl;
  others = refl;
}
