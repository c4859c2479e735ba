-- How many keys a call on an ordered map compares, in worked rows that tests meet.
use Rattle.std.specs.Prelude.{◌≡◌, ℕ, ◌+◌, ◌≤◌, [], length}
use Rattle.rpds_core.specs.declared.steps.Steps.{Steps}
use Rattle.rpds_tree.specs.OrderedMap.{OrderedMap}

module _ {K V : Type 0} (m : OrderedMap K V) (old new : Steps) where
  -- among so many pairs, at most so many keys were compared
  abbrev pub ComparesAmong : ℕ → ℕ → Type 0
  ComparesAmong pairs keys = length m.entries ≡ pairs → new.compared ≤ old.compared + keys

  -- on the empty map nothing was counted
  abbrev pub ComparesRows : Type 0
  ComparesRows =
      ComparesAmong 1000 18
      × ComparesAmong 500 16
      × ComparesAmong 7 6
      × ComparesAmong 1 2
      × (m.entries ≡ [] → new ≡ old)
