-- What a map with snapshots is printed as for debugging.
use Rattle.std.specs.Prelude.{ℕ, List, Option, Some, codes}
use Rattle.std.specs.Fmt.{◌++?◌, debug_list}
use Rattle.rpds_core.specs.MapText.{map_text}
use Rattle.rpds_snapshots.specs.SnapshotContents.{Contents}
use Rattle.rpds_tree.specs.OrderedMap.{OrderedMap}

module _ {K V : Type 0} (key_text : K → Option (List ℕ)) (value_text : V → Option (List ℕ)) where
  -- a map is printed as its pairs
  abbrev pub text_of_map : OrderedMap K V → Option (List ℕ)
  text_of_map map = map_text key_text value_text map.entries

  -- as std prints a struct of the map as it is now and the list of its snapshots
  abbrev pub debug_text : Contents K V → Option (List ℕ)
  debug_text s = Some (codes "Snapshots { current: ") ++? text_of_map s.current ++? Some (codes ", taken: ") ++? debug_list text_of_map s.taken ++? Some (codes " }")
