-- What a removal leaves of a tree.
use Rattle.std.specs.Prelude.{◌≡◌, ℕ, ◌+◌, ◌≤◌, Bool, true, IsSome, List, [], length}
use Rattle.std.specs.declared.cmp.Ordering.{Ordering}
use Rattle.rpds_red_black.specs.TreeNode.{shape_of, pair_of, Painted}
use Rattle.rpds_red_black.specs.TreeWalk.{either}
use Rattle.rpds_red_black.specs.Logarithm.{most_levels}
use Rattle.rpds_red_black.specs.OrderedMap.{OrderedMap}
use Rattle.rpds_red_black.specs.Pairs.{find_by, without_by}
use Rattle.rpds_red_black.specs.Shape.{Shape, blackness}
use Rattle.rpds_red_black.specs.Sides.{joined}
use Rattle.rpds_red_black.specs.Take.{is_taken, lost, IsLowered}
use Rattle.rpds_red_black.specs.declared.remove_in_place.Loss.{Loss}
use Rattle.rpds_red_black.specs.declared.tree.Color.{Color}
use Rattle.rpds_red_black.specs.declared.tree.Color.TheVariants.{Red, Black}

-- a tree of these pairs, with a root of the color over sides of that many black nodes
pub record IsBalanced {K V : Type 0} (entries : List (K × V)) (below : ℕ) (c : Color) (new : Shape K V) : Type 0 where
  pub pairs : new.entries ≡ entries
  pub black : new.black ≡ below + blackness c
  pub color : new.color ≡ c

-- what is left, with these pairs, of a tree with a root of the color over sides of that many black nodes
pub record IsRebalanced {K V : Type 0} (entries : List (K × V)) (below : ℕ) (c : Color) (loss : Loss) (left : Shape K V) : Type 0 where
  pub pairs : left.entries ≡ entries
  pub taken : is_taken loss ≡ true
  pub black : below + blackness c ≡ left.black + lost loss
  pub red : c ≡ Red → lost loss ≡ 0
  pub stays : c ≡ Black → left.color ≡ Black

-- what is left, with these pairs, of a tree that lost one
pub record IsRemains {K V : Type 0} (entries : List (K × V)) (old : Shape K V) (loss : Loss) (left : Shape K V) : Type 0 where
  pub pairs : left.entries ≡ entries
  pub taken : is_taken loss ≡ true
  pub lowered : IsLowered loss old left

-- what is left of a tree without the pair at one end: its last one for `true`, else its first one
pub record IsEndTaken {K V : Type 0} (right : Bool) (old : Shape K V) (loss : Loss) (left : Shape K V) : Type 0 where
  pub end : K × V
  pub pairs : old.entries ≡ joined right [] end left.entries
  pub taken : is_taken loss ≡ true
  pub lowered : IsLowered loss old left

-- what is left of a node by the loss of its near side, and by what is left of that
pub record IsRemainsOver {K V A : Type 0} (right : Bool) (n : Painted K V A) (near_loss : Loss) (near : Shape K V) (loss : Loss) (left : Shape K V) : Type 0 where
  pub same : is_taken loss ≡ is_taken near_loss
  pub pairs : is_taken near_loss ≡ true → left.entries ≡ joined right near.entries (pair_of n.entry.value) (either right n.right n.left).entries
  pub lowered : is_taken near_loss ≡ true → IsLowered loss (shape_of n) left

-- a map of the pairs without the one at an end
pub record IsWithoutEnd {K V : Type 0} (right : Bool) (entries : List (K × V)) (m : OrderedMap K V) : Type 0 where
  pub end : K × V
  pub pairs : entries ≡ joined right [] end m.entries
  pub shallow : m.depth ≤ most_levels (length m.entries)

-- a whole tree without the pair of a key that was there
pub record IsRemoved {K V : Type 0} (q : K → Ordering) (old new : Shape K V) : Type 0 where
  pub there : IsSome (find_by q old.entries)
  pub pairs : new.entries ≡ without_by q old.entries
  pub count : length old.entries ≡ length new.entries + 1
  pub black : new.color ≡ Black
