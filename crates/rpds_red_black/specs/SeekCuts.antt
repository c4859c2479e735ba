-- A tree without what a look finds, and a tree that was cut there.
use Rattle.std.specs.Prelude.{◌≡◌, ◌<◌, ◌≤◌, true, is_some, ◌∷◌, ◌++◌}
use Rattle.rpds_red_black.specs.Join.{pair_lent, rank}
use Rattle.rpds_red_black.specs.Seeks.{Looks}
use Rattle.rpds_red_black.specs.Shape.{Shape}
use Rattle.rpds_red_black.specs.Take.{is_taken, IsLowered}
use Rattle.rpds_red_black.specs.TreeNode.{pair_of, Painted}
use Rattle.rpds_red_black.specs.declared.remove_in_place.Loss.{Loss}
use Rattle.rpds_red_black.specs.declared.split.Split.{Split}

-- what is left of a tree without the pair that a look finds
pub record IsWithoutSought {S K V : Type 0} (w : Looks S K V) (s : S) (old : Shape K V) (loss : Loss) (left : Shape K V) : Type 0 where
  pub found : is_taken loss ≡ is_some (w.found s old.entries)
  pub rooted : is_taken loss ≡ true → 0 < old.depth
  pub pairs : is_taken loss ≡ true → left.entries ≡ w.before s old.entries ++ w.after s old.entries
  pub lowered : is_taken loss ≡ true → IsLowered loss old left

-- the cut of a tree t, whose root is n, from the cut of the root's left side
pub record IsExtendedAfter {K V A : Type 0} (t : Shape K V) (n : Painted K V A) (side s : Split K V A) : Type 0 where
  pub before : s.before ≡ side.before
  pub found : s.found ≡ side.found
  pub after : s.after.entries ≡ side.after.entries ++ pair_of n.entry.value ∷ n.right.entries
  pub low : rank side.after ≤ rank n.left → rank s.after ≤ rank t

-- and from that of its right side
pub record IsExtendedBefore {K V A : Type 0} (t : Shape K V) (n : Painted K V A) (side s : Split K V A) : Type 0 where
  pub before : s.before.entries ≡ n.left.entries ++ pair_of n.entry.value ∷ side.before.entries
  pub found : s.found ≡ side.found
  pub after : s.after ≡ side.after
  pub low : rank side.before ≤ rank n.right → rank s.before ≤ rank t

-- a tree that was cut at what a look finds
pub record IsCutOf {S K V A : Type 0} (w : Looks S K V) (sought : S) (t : Shape K V) (s : Split K V A) : Type 0 where
  pub before : s.before.entries ≡ w.before sought t.entries
  pub found : pair_lent s.found ≡ w.found sought t.entries
  pub after : s.after.entries ≡ w.after sought t.entries
  pub before_low : rank s.before ≤ rank t
  pub after_low : rank s.after ≤ rank t
