-- What an ordered map is seen as.
use Rattle.std.specs.Prelude.{◌≡◌, ◌<◌, ◌≤◌, ◌^◌, ℕ, IsNone, IsSome, List, length}
use Rattle.std.specs.declared.cmp.Ordering.{Ordering}
use Rattle.rpds_red_black.specs.Logarithm.{most_levels}
use Rattle.rpds_red_black.specs.Pairs.{IsAscending, find_by, without_by}
use Rattle.rpds_red_black.specs.Shape.{Shape}

-- its pairs by ascending keys, and the number of nodes on the longest path of its tree
pub record OrderedMap (K V : Type 0) : Type 0 where
  pub entries : List (K × V)
  pub depth : ℕ

abbrev pub map_of : {K V : Type 0} → Shape K V → OrderedMap K V
map_of s = record { entries = s.entries; depth = s.depth }

-- the keys ascend, no path is longer than twice the logarithm, and the longest is as long as any binary tree of that many pairs needs
pub record IsOrdered {K V : Type 0} (R : K → K → Ordering) (m : OrderedMap K V) : Type 0 where
  pub ascending : IsAscending R m.entries
  pub shallow : m.depth ≤ most_levels (length m.entries)
  pub deep : length m.entries < 2 ^ m.depth

-- the pairs have no key that is looked for, and so lose none without it
pub record IsAbsent {K V : Type 0} (q : K → Ordering) (entries : List (K × V)) : Type 0 where
  pub absent : IsNone (find_by q entries)
  pub same : without_by q entries ≡ entries

-- the pairs had the key that is looked for, and m has the others
pub record IsWithout {K V : Type 0} (q : K → Ordering) (entries : List (K × V)) (m : OrderedMap K V) : Type 0 where
  pub there : IsSome (find_by q entries)
  pub others : m.entries ≡ without_by q entries
  pub shallow : m.depth ≤ most_levels (length m.entries)
