-- What differs between two versions of a map or a set.
use Rattle.std.specs.Prelude.{◌≡◌, Bool, true, false, not, Option, Some, None, List, is_some, map}
use Rattle.std.specs.List.{AllByRecursion}
use Rattle.rpds_core.specs.declared.change.MapChange.{MapChange}
use Rattle.rpds_core.specs.declared.change.MapChange.TheVariants.{Added, Removed, Changed}
use Rattle.rpds_core.specs.declared.change.SetChange.{SetChange}
use Rattle.rpds_core.specs.declared.change.SetChange.TheVariants.{Added as MemberAdded, Removed as MemberRemoved}

-- a key, and its value before and after, where it has one
abbrev pub change_value : {K V : Type 0} → MapChange K V → K × (Option V × Option V)
change_value (Added key value) = (key.now, (None, Some value.now))
change_value (Removed key value) = (key.now, (Some value.now, None))
change_value (Changed key old new) = (key.now, (Some old.now, Some new.now))

-- of two versions of a set, a member of one alone, and whether that is the newer one
abbrev pub member_change_value : {T : Type 0} → SetChange T → T × Bool
member_change_value (MemberAdded m) = (m.now, true)
member_change_value (MemberRemoved m) = (m.now, false)

-- the same, by the changes of the set's map, of which none changes a value
abbrev pub members_changed : {T : Type 0} → List (T × (Option (Unit {0}) × Option (Unit {0}))) → List (T × Bool)
members_changed ds = map (λ d. (d.0, is_some d.1.1)) ds

abbrev pub ChangeNoValue : {T : Type 0} → List (T × (Option (Unit {0}) × Option (Unit {0}))) → Type 0
ChangeNoValue ds = AllByRecursion (λ d. is_some d.1.0 ≡ not (is_some d.1.1)) ds
