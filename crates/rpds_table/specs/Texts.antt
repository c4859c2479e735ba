-- What versions are displayed as, and printed as for debugging.
use Rattle.std.specs.Prelude.{ℕ, List, Option}
use Rattle.std.specs.Fmt.{debug_list}
use Rattle.rpds_core.specs.MapText.{map_text}
use Rattle.rpds_core.specs.SetText.{set_text}
use Rattle.rpds_table.specs.Kinds.{at}
use Rattle.rpds_table.specs.declared.table.version.Version.{Version}
use Rattle.rpds_table.specs.declared.table.version.Version.TheVariants as version

module _ {K V H A S : Type 0} where
  -- what a version is displayed as, by what its keys and values are: as its container
  abbrev pub text_of : (K → Option (List ℕ)) → (V → Option (List ℕ)) → Version K V H A S → Option (List ℕ)
  text_of key_text value_text v = at v (λ T r x to. r.text key_text value_text x)

  -- what it is printed as for debugging: as std prints lists, maps and sets
  abbrev pub debug_text_of : (K → Option (List ℕ)) → (V → Option (List ℕ)) → Version K V H A S → Option (List ℕ)
  debug_text_of key_text value_text (version.List xs) = debug_list value_text xs
  debug_text_of key_text value_text (version.Stack xs) = debug_list value_text xs
  debug_text_of key_text value_text (version.Queue q) = debug_list value_text q.items
  debug_text_of key_text value_text (version.Vector v) = debug_list value_text v.items
  debug_text_of key_text value_text (version.HashTrieMap m) = map_text key_text value_text m.entries
  debug_text_of key_text value_text (version.HashTrieSet s) = set_text key_text s.members
  debug_text_of key_text value_text (version.RedBlackTreeMap m) = map_text key_text value_text m.entries
  debug_text_of key_text value_text (version.RedBlackTreeSet s) = set_text key_text s.members
