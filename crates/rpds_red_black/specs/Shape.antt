-- What a tree is seen as.
use Rattle.std.specs.Prelude.{◌≡◌, ℕ, ◌+◌, ◌*◌, ◌^◌, ◌<◌, ◌≤◌, max, List, [], ◌∷◌, ◌++◌, length}
use Rattle.rpds_red_black.specs.declared.tree.Color.{Color}
use Rattle.rpds_red_black.specs.declared.tree.Color.TheVariants.{Red, Black}

-- the entries in order, the number of nodes on the longest path, of black nodes on each path, and the root's color
pub record Shape (K V : Type 0) : Type 0 where
  pub entries : List (K × V)
  pub depth : ℕ
  pub black : ℕ
  pub color : Color

abbrev pub leaf : {K V : Type 0} → Shape K V
leaf = record { entries = []; depth = 0; black = 0; color = Black }

-- one for a black node
abbrev pub blackness : Color → ℕ
blackness Red = 0
blackness Black = 1

abbrev pub branch : {K V : Type 0} → Color → Shape K V → K × V → Shape K V → Shape K V
branch color left entry right = record {
  entries = left.entries ++ entry ∷ right.entries;
  depth = max left.depth right.depth + 1;
  black = left.black + blackness color;
  color = color;
}

-- no path is longer than twice the black nodes, and one red node above them; there are entries enough for that many black nodes,
-- and no more than a tree of that depth can hold
pub record IsSound {K V : Type 0} (s : Shape K V) : Type 0 where
  pub short : s.depth + blackness s.color ≤ 2 * s.black + 1
  pub full : 2 ^ s.black ≤ length s.entries + 1
  pub held : length s.entries < 2 ^ s.depth

-- a red node has black children
abbrev pub MayStandOver : {K V : Type 0} → Color → Shape K V → Type 0
MayStandOver Red child = child.color ≡ Black
MayStandOver Black child = Unit {0}
