-- What an insertion makes of a node, and of a tree.
use Rattle.std.specs.Prelude.{◌≡◌, ℕ, ◌+◌, Bool, true, false, Result, Ok, Err, List, length}
use Rattle.rpds_red_black.specs.TreeNode.{shape_of, Painted}
use Rattle.rpds_red_black.specs.Shape.{MayStandOver, blackness}
use Rattle.rpds_red_black.specs.declared.insert.Growth.{Growth}
use Rattle.rpds_red_black.specs.declared.insert.Growth.TheVariants.{Replaced, Added, AddedTaller}
use Rattle.rpds_red_black.specs.declared.rotation.Side.{Side}
use Rattle.rpds_red_black.specs.declared.rotation.Side.TheVariants.{Left, Right}
use Rattle.rpds_red_black.specs.declared.tree.Color.{Color}
use Rattle.rpds_red_black.specs.declared.tree.Color.TheVariants.{Red, Black}

-- how many pairs there are more
abbrev pub added : Growth → ℕ
added Replaced = 0
added Added = 1
added AddedTaller = 1

abbrev pub added_by : {E : Type 0} → Result Growth E → ℕ
added_by (Ok growth) = added growth
added_by (Err e) = 0

-- what is told of it
abbrev pub added_of : {E : Type 0} → Result Growth E → Result Bool E
added_of (Ok Replaced) = Ok false
added_of (Ok Added) = Ok true
added_of (Ok AddedTaller) = Ok true
added_of (Err e) = Err e

-- how many black nodes more there are on each path of the left side: a red node leans to one side
abbrev pub rise_left : Growth → Color → Side → ℕ
rise_left Replaced color lean = 0
rise_left Added color lean = 0
rise_left AddedTaller Black lean = 1
rise_left AddedTaller Red Left = 1
rise_left AddedTaller Red Right = 0

-- and on each path of the right side
abbrev pub rise_right : Growth → Color → Side → ℕ
rise_right Replaced color lean = 0
rise_right Added color lean = 0
rise_right AddedTaller Black lean = 1
rise_right AddedTaller Red Left = 0
rise_right AddedTaller Red Right = 1

-- whether a node of the color, which may lean to the side that grew so, stays as it is
abbrev pub stays_of : {E : Type 0} → Result Growth E → Color → Bool → Bool
stays_of (Ok Replaced) color leans = true
stays_of (Ok Added) color leans = true
stays_of (Ok AddedTaller) Red leans = leans
stays_of (Ok AddedTaller) Black leans = false
stays_of (Err e) color leans = true

-- the color that a node may take on: a black one that got taller may become red
abbrev pub shade : Growth → Color → Color
shade Replaced color = color
shade Added color = color
shade AddedTaller color = Red

-- a node of the color, which had `level` black nodes on each path, after it grew
pub record IsGrown {K V A : Type 0} (color : Color) (level : ℕ) (lean : Side) (growth : Growth) (n : Painted K V A) : Type 0 where
  pub stays : n.color ≡ color
  pub left : n.left.black + blackness color ≡ level + rise_left growth color lean
  pub right : n.right.black + blackness color ≡ level + rise_right growth color lean
  pub over_left : MayStandOver (shade growth color) n.left
  pub over_right : MayStandOver (shade growth color) n.right

-- a node, grown so as to have the pairs
pub record IsGrownTo {K V A : Type 0} (entries : List (K × V)) (old : Painted K V A) (lean : Side) (growth : Growth) (new : Painted K V A) : Type 0 where
  pub pairs : (shape_of new).entries ≡ entries
  pub count : length (shape_of new).entries ≡ length (shape_of old).entries + added growth
  pub grown : IsGrown old.color (shape_of old).black lean growth new
