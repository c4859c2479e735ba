-- A map after a change of what a key has.
use Rattle.std.specs.Prelude.{List, Option, None, Some}
use Rattle.std.specs.declared.cmp.Ordering.{Ordering}
use Rattle.rpds_red_black.specs.Pairs.{put, without, without_by}

-- the pairs with the value under the key, or without the key where there is none
abbrev pub altered : {K V : Type 0} → (K → K → Ordering) → K → Option V → List (K × V) → List (K × V)
altered R key (Some value) entries = put R (key, value) entries
altered R key None entries = without R key entries

-- the pairs with the one that was found, or without what is looked for where none was
abbrev pub with_found : {K V : Type 0} → (K → K → Ordering) → (K → Ordering) → Option (K × V) → List (K × V) → List (K × V)
with_found R seek (Some p) entries = put R p entries
with_found R seek None entries = without_by seek entries
