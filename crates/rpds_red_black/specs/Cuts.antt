-- Lists of pairs that are cut at a key, and combined.
use Rattle.std.specs.Prelude.{◌≡◌, ◌≤◌, ◌+◌, if◌then◌else◌, List, [], ◌∷◌, ◌++◌, Option, Some, None, IfSome, length, filter_map}
use Rattle.std.specs.declared.cmp.Ordering.{Ordering}
use Rattle.std.specs.declared.cmp.Ordering.TheVariants.{Equal}
use Rattle.rpds_red_black.specs.Pairs.{IsAboveAll, IsBelowAll, IsAscending, find}
use Rattle.rpds_red_black.specs.declared.combine.Common.{Common}
use Rattle.rpds_red_black.specs.declared.combine.Common.TheVariants.{Walked, Cut, Neither}
use Rattle.rpds_red_black.specs.declared.combine.Kept.{Kept}

-- none or one
abbrev pub items_of : {T : Type 0} → Option T → List T
items_of None = []
items_of (Some x) = x ∷ []

-- the pairs below a key, the one at it, if there is one, and those above it
pub record IsCutAt {K V : Type 0} (R : K → K → Ordering) (k : K) (es before : List (K × V)) (at : Option (K × V)) (after : List (K × V)) : Type 0 where
  pub same : es ≡ before ++ (items_of at ++ after)
  pub below : IsAboveAll R k before
  pub tied : IfSome at (λ p. R k p.0 ≡ Equal)
  pub above : IsBelowAll R k after

-- what is kept of a key that is in both
abbrev pub kept_of_both : {T : Type 0} → Common → T → T → Option T
kept_of_both Walked w c = Some w
kept_of_both Cut w c = Some c
kept_of_both Neither w c = None

-- what is kept of what two lists have at a key
abbrev pub pick : {T : Type 0} → Kept → Option T → Option T → Option T
pick kept None None = None
pick kept None (Some c) = if kept.cut then Some c else None
pick kept (Some w) None = if kept.walked then Some w else None
pick kept (Some w) (Some c) = kept_of_both kept.common w c

-- what is kept of two lists, in order
pub record IsCombined {K V : Type 0} (R : K → K → Ordering) (kept : Kept) (ws cs es : List (K × V)) : Type 0 where
  pub ascending : IsAscending R es
  pub finds : (k : K) → find R k es ≡ pick kept (find R k ws) (find R k cs)
  pub few : length es ≤ length ws + length cs

-- what is kept of the pairs of ws, and of those with equal keys in cs
abbrev pub sifted : {K V : Type 0} → (K → K → Ordering) → Kept → List (K × V) → List (K × V) → List (K × V)
sifted R kept cs ws = filter_map (λ w. pick kept (Some w) (find R w.0 cs)) ws

-- both lists the other way round
abbrev pub turned_common : Common → Common
turned_common Walked = Cut
turned_common Cut = Walked
turned_common Neither = Neither

abbrev pub turned : Kept → Kept
turned kept = record { walked = kept.cut; cut = kept.walked; common = turned_common kept.common }
