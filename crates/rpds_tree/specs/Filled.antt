-- What an ordered map ends as, once a reference to the value of a key that it had or was given has ended.
use Rattle.std.specs.Prelude.{◌≡◌, ◌≤◌, ◌⊎◌, if◌then◌else◌, List, None, IsSome, Result, is_some, length}
use Rattle.std.specs.Borrow.{Fml, RattleType, MutBor, LendsSoOk}
use Rattle.std.specs.declared.alloc.Allocator.{Ghosts}
use Rattle.std.specs.declared.cmp.Ordering.{Ordering}
use Rattle.rpds_red_black.specs.Logarithm.{most_levels}
use Rattle.rpds_red_black.specs.OrderedMap.{OrderedMap}
use Rattle.rpds_red_black.specs.Pairs.{find, put}
use Rattle.rpds_red_black.specs.Values.{with_value}
use Rattle.rpds_tree.specs.MapLends.{OrdMembers, map_row}

-- the pairs with v as the value of k: under the stored key where there is an equal one, and else k is put in
abbrev pub with_or_put : {K V : Type 0} → (K → K → Ordering) → K → List (K × V) → V → List (K × V)
with_or_put R k es v = if is_some (find R k es) then with_value R k es v else put R (k, v) es

-- the map new has the pairs of old so
pub record IsFilled {K V : Type 0} (R : K → K → Ordering) (k : K) (v : V) (old new : OrderedMap K V) : Type 0 where
  pub entries : new.entries ≡ with_or_put R k old.entries v
  pub shallow : new.depth ≤ most_levels (length new.entries)
  pub kept : IsSome (find R k old.entries) → new.depth ≡ old.depth

-- the map old lacks k, and new has it with a value of which Made holds
pub record IsPut {K V : Type 0} (R : K → K → Ordering) (k : K) (Made : V → Type 0) (old new : OrderedMap K V) : Type 0 where
  pub absent : find R k old.entries ≡ None
  pub value : V
  pub made : Made value
  pub entries : new.entries ≡ put R (k, value) old.entries

-- the map has at k the last value written through r, under its stored key or, where it had none, under k. Where there is no reference it is
-- as it was, or has k with a value of which Made holds.
abbrev pub lends_or_puts : (K V A : RattleType) → OrdMembers K.Denot → Ghosts A.Denot → MutBor (OrderedMap K.Denot V.Denot) → K.Denot → (V.Denot → Type 0)
    → {E : Type 0} → Result (MutBor V.Denot) E → Fml
lends_or_puts K V A key heap m k Made r =
    LendsSoOk (map_row K V A key heap) V m r (λ d v. IsFilled key.cmp k v m.now d) (λ d. (d ≡ m.now) ⊎ IsPut key.cmp k Made m.now d)
