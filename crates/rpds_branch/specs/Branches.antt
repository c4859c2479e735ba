-- What a branch of a map is seen as, and what changed in it.
use Rattle.std.specs.Prelude.{◌≡◌, ◌+◌, Bool, if◌then◌else◌, Option, None, Some, List, [], ◌∷◌, length, max, ℕ}
use Rattle.std.specs.List.{filter_map}
use Rattle.std.specs.declared.cmp.Ordering.{Ordering}
use Rattle.rpds_tree.specs.OrderedMap.{OrderedMap}
use Rattle.rpds_tree.specs.OrderedSet.{put_member}
use Rattle.rpds_tree.specs.Pairs.{find}

-- the map that it branched off, the map as it is now, and the keys that were put in or taken out since, in order
pub record Branched (K V : Type 0) : Type 0 where
  pub base : OrderedMap K V
  pub current : OrderedMap K V
  pub touched : List K

abbrev pub branched : {K V : Type 0} → OrderedMap K V → OrderedMap K V → List K → Branched K V
branched base current touched = record { base = base; current = current; touched = touched }

-- in a merge of theirs into ours no map has more pairs, with those that may come: ours, the keys that we touched, and both of theirs
abbrev pub most_pairs : {K V : Type 0} → Branched K V → Branched K V → ℕ
most_pairs ours theirs = max (max (length ours.current.entries) (length ours.touched) + length theirs.touched)
    (max (length theirs.base.entries) (length theirs.current.entries))

-- the fewest comparisons of a look-up among pairs
abbrev pub fewest_compared : {K V : Type 0} → List (K × V) → ℕ
fewest_compared [] = 0
fewest_compared (e ∷ es) = 1

-- what became of a pair: nothing where there is none before and after, or its value is the same
abbrev pub fate : {K V : Type 0} → (V → V → Bool) → Option (K × V) → Option (K × V) → Option (K × (Option V × Option V))
fate same None None = None
fate same (Some p) None = Some (p.0, (Some p.1, None))
fate same None (Some q) = Some (q.0, (None, Some q.1))
fate same (Some p) (Some q) = if same p.1 q.1 then None else Some (q.0, (Some p.1, Some q.1))

module _ {K V : Type 0} (R : K → K → Ordering) where
  -- the touched keys with that of a pair, where there is one
  abbrev pub touched_with : Option (K × V) → List K → List K
  touched_with None ks = ks
  touched_with (Some p) ks = put_member R p.0 ks

  -- each key that isn't among the touched ones is found as before
  abbrev pub SparesOthers : List (K × V) → List (K × V) → List (K × V) → Type 0
  SparesOthers touched base current = (k : K) → find R k touched ≡ None → find R k current ≡ find R k base

  -- what became of a key
  abbrev pub change_at : (V → V → Bool) → List (K × V) → List (K × V) → K → Option (K × (Option V × Option V))
  change_at same old new k = fate same (find R k old) (find R k new)

  -- what became of the keys of these pairs, one after another
  abbrev pub changes_at : (V → V → Bool) → List (K × V) → List (K × V) → List (K × V) → List (K × (Option V × Option V))
  changes_at same old new ps = filter_map (λ p. change_at same old new p.0) ps
