-- What two trees in one are, and a tree that was cut in two.
use Rattle.std.specs.Prelude.{◌≡◌, ◌≤◌, ℕ, ◌+◌, ◌*◌, ◌-◌, max, List, ◌∷◌, map, Option}
use Rattle.std.specs.Borrow.{Bor}
use Rattle.std.specs.declared.rc.Rc.{Rc}
use Rattle.std.specs.declared.cmp.Ordering.{Ordering}
use Rattle.std.specs.Option.{option_map}
use Rattle.rpds_core.specs.declared.map.entry.Entry.{Entry}
use Rattle.rpds_red_black.specs.Cuts.{IsCutAt}
use Rattle.rpds_red_black.specs.Shape.{Shape}
use Rattle.rpds_red_black.specs.TreeNode.{pair_of}
use Rattle.rpds_red_black.specs.declared.join.TakenOff.{TakenOff}
use Rattle.rpds_red_black.specs.declared.split.Split.{Split}
use Rattle.rpds_red_black.specs.declared.tree.Color.{Color}
use Rattle.rpds_red_black.specs.declared.tree.Color.TheVariants.{Red, Black}

-- one for a red node
abbrev pub redness : Color → ℕ
redness Red = 1
redness Black = 0

-- a tree's rank (Blelloch, Ferizovic, Sun, Just Join, 2016): twice the black nodes of a path, and one for a red root. It gets
-- less at each step down. The rank of a key is in `Positions`.
abbrev pub rank : {K V : Type 0} → Shape K V → ℕ
rank s = 2 * s.black + redness s.color

-- how far two numbers lie apart
abbrev pub gap : ℕ → ℕ → ℕ
gap a b = (a - b) + (b - a)

-- a tree of these pairs, with that many black nodes on each path
pub record IsOfHeight {K V : Type 0} (entries : List (K × V)) (black : ℕ) (t : Shape K V) : Type 0 where
  pub pairs : t.entries ≡ entries
  pub high : t.black ≡ black

-- both trees in one, no lower than either, and hardly higher than the higher one
pub record IsJoined {K V : Type 0} (entries : List (K × V)) (a b t : Shape K V) : Type 0 where
  pub pairs : t.entries ≡ entries
  pub over_a : a.black ≤ t.black
  pub over_b : b.black ≤ t.black
  pub low : rank t ≤ max (rank a) (rank b) + 1

-- a tree, taken apart into its first entry and those after it
pub record IsTakenOff {K V A : Type 0} (s : Shape K V) (taken : TakenOff K V A) : Type 0 where
  pub pairs : s.entries ≡ pair_of taken.first.value ∷ taken.rest.entries
  pub low : taken.rest.black ≤ s.black
  pub rank_low : rank taken.rest ≤ rank s

-- the pair behind a pointer to an entry, and behind a reference to one
abbrev pub pair_held : {K V A : Type 0} → Option (Rc (Entry K V) A) → Option (K × V)
pair_held e = option_map (λ e. pair_of e.value) e

abbrev pub pair_lent : {K V A : Type 0} → Option (Bor (Rc (Entry K V) A)) → Option (K × V)
pair_lent e = option_map (λ e. pair_of e.now.value) e

-- the pairs behind references to pointers to entries
abbrev pub pairs_lent : {K V A : Type 0} → List (Bor (Rc (Entry K V) A)) → List (K × V)
pairs_lent es = map (λ e. pair_of e.now.value) es

-- a tree that was cut at a key
pub record IsSplit {K V A : Type 0} (R : K → K → Ordering) (k : K) (t : Shape K V) (s : Split K V A) : Type 0 where
  pub cut : IsCutAt R k t.entries s.before.entries (pair_lent s.found) s.after.entries
  pub before_low : rank s.before ≤ rank t
  pub after_low : rank s.after ≤ rank t
