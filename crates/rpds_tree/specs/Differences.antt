-- What differs between two versions of a map.
use Rattle.std.specs.Prelude.{Bool, true, false, not, Option, Some, None, List, filter, is_some, map}
use Rattle.std.specs.declared.cmp.Ordering.{Ordering}
use Rattle.std.specs.Option.{option_map}
pub use Rattle.rpds_core.specs.Changes.{ChangeNoValue, change_value, member_change_value, members_changed}
use Rattle.rpds_tree.specs.OrderedSet.{find_member, put_members}
use Rattle.rpds_red_black.specs.Pairs.{find, put_all}

-- whether a value isn't the one before it, or there was none or is none
abbrev pub differ : {V : Type 0} → (V → V → Bool) → Option V → Option V → Bool
differ same (Some old) (Some new) = not (same old new)
differ same None None = false
differ same old new = true

module _ {K V : Type 0} (R : K → K → Ordering) where
  abbrev pub value_of : K → List (K × V) → Option V
  value_of k es = option_map (λ p. p.1) (find R k es)

  -- of all keys, in order, those whose values differ
  abbrev pub differences : (V → V → Bool) → List (K × V) → List (K × V) → List (K × (Option V × Option V))
  differences same old new = filter (λ d. differ same d.1.0 d.1.1) (map (λ p. (p.0, (value_of p.0 old, value_of p.0 new))) (put_all R old new))

-- of two versions of a set, a member of one alone, and whether that is the newer one
abbrev pub member_differences : {T : Type 0} → (T → T → Ordering) → List T → List T → List (T × Bool)
member_differences R old new = map (λ m. (m, is_some (find_member R m new))) (filter (λ m. differ (λ a b. true) (find_member R m old) (find_member R m new)) (put_members R old new))
