-- What commands make of the map and of each snapshot.
use Rattle.std.specs.Prelude.{◌≡◌, ◌==◌, ◌++◌, ℕ, List, [], ◌∷◌, Option, Some, slice_get, if◌then◌else◌, reverse}
use Rattle.std.specs.List.{zip}
use Rattle.std.specs.Option.{option_map, unwrap_or}
use Rattle.std.specs.declared.cmp.Ordering.{Ordering}
use Rattle.rpds_tree.specs.OrderedMap.{OrderedMap}
use Rattle.rpds_tree.specs.Pairs.{put, without}
use Rattle.rpds_snapshots.specs.SnapshotContents.{Contents}
use Rattle.rpds_snapshots.specs.declared.snapshots.command.SnapCommand.{SnapCommand}
use Rattle.rpds_snapshots.specs.declared.snapshots.command.SnapCommand.TheVariants.{Put, TakeOut, Take, GoBack}
use Rattle.rpds_snapshots.specs.declared.snapshots.reply.SnapReply.{SnapReply}
use Rattle.rpds_snapshots.specs.declared.snapshots.reply.SnapReply.TheVariants.{Taken, Refused}

-- the commands with their replies, the last one first
abbrev pub history : {K V : Type 0} → List (SnapCommand K V) → List SnapReply → List (SnapCommand K V × SnapReply)
history commands replies = reverse (zip commands replies)

-- The snapshots that there were stand first, each as it was.
abbrev pub KeepsSnapshots : {K V : Type 0} → Contents K V → Contents K V → Type 0
KeepsSnapshots {K = K} {V = V} s s' = (later : List (OrderedMap K V)) × (s'.taken ≡ s.taken ++ later)

module _ {K V : Type 0} (R : K → K → Ordering) where
  abbrev mutual
    -- The map's pairs after the commands, from s. These come with their replies, the last one first.
    pub current_after : Contents K V → List (SnapCommand K V × SnapReply) → List (K × V)
    current_after s [] = s.current.entries
    current_after s ((command, Refused r) ∷ earlier) = current_after s earlier
    current_after s ((Put k v, reply) ∷ earlier) = put R (k, v) (current_after s earlier)
    current_after s ((TakeOut k, reply) ∷ earlier) = without R k (current_after s earlier)
    current_after s ((Take, reply) ∷ earlier) = current_after s earlier
    current_after s ((GoBack n, reply) ∷ earlier) = unwrap_or (snapshot_after s earlier n) (current_after s earlier)

    -- The pairs of snapshot n after the commands: those that the map had when the reply gave its number. Without such a
    -- reply they are those of s.
    pub snapshot_after : Contents K V → List (SnapCommand K V × SnapReply) → ℕ → Option (List (K × V))
    snapshot_after s [] n = option_map (λ m. m.entries) (slice_get s.taken n)
    snapshot_after s ((command, Taken i) ∷ earlier) n = if i == n then Some (current_after s earlier) else snapshot_after s earlier n
    snapshot_after s ((command, reply) ∷ earlier) n = snapshot_after s earlier n

  -- The map and each snapshot are what their own commands make, and there are no other snapshots.
  pub record HoldsOwn (s : Contents K V) (commands : List (SnapCommand K V)) (replies : List SnapReply) (s' : Contents K V) : Type 0 where
    pub current : s'.current.entries ≡ current_after s (history commands replies)
    pub snapshots : (n : ℕ) → option_map (λ m. m.entries) (slice_get s'.taken n) ≡ snapshot_after s (history commands replies) n
