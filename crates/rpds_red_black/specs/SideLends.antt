-- What a node ends as, once a reference to one of its sides has ended.
use Rattle.std.specs.Prelude.{Bool}
use Rattle.std.specs.Borrow.{Fml, RattleType, MutBor, Lends}
use Rattle.std.specs.declared.alloc.Allocator.{Ghosts}
use Rattle.rpds_red_black.specs.Shape.{Shape}
use Rattle.rpds_red_black.specs.Sides.{with_near, with_far}
use Rattle.rpds_red_black.specs.contracts.tree.Node.{the_row as node_row}
use Rattle.rpds_red_black.specs.contracts.tree.Tree.{the_row as tree_row}
use Rattle.rpds_red_black.specs.declared.tree.Node.{Node}

module _ (K V A : RattleType) (heap : Ghosts A.Denot) (right : Bool) (n : MutBor (Node K.Denot V.Denot A.Denot)) (r : MutBor (Shape K.Denot V.Denot)) where
  abbrev pub lends_near : Fml
  lends_near = Lends (node_row K V A heap) (tree_row K V A heap) n r (with_near right n.now)

  abbrev pub lends_far : Fml
  lends_far = Lends (node_row K V A heap) (tree_row K V A heap) n r (with_far right n.now)
