-- What commands do to an ordered map with snapshots.
use Rattle.std.specs.Prelude.{◌≡◌, ◌≢◌, ◌==◌, ◌++◌, ◌-◌, ◌^◌, ℕ, true, false, List, [], ◌∷◌, length, Option, None, Some, slice_get, MatchOption, if◌then◌else◌, is_none}
use Rattle.std.specs.declared.cmp.Ordering.{Ordering}
use Rattle.rpds_tree.specs.Pairs.{find, put, without}
use Rattle.rpds_snapshots.specs.SnapshotContents.{Contents}
use Rattle.rpds_snapshots.specs.declared.snapshots.command.SnapCommand.{SnapCommand}
use Rattle.rpds_snapshots.specs.declared.snapshots.command.SnapCommand.TheVariants.{Put, TakeOut, Take, GoBack}
use Rattle.rpds_snapshots.specs.declared.snapshots.refusal.SnapRefusal.{SnapRefusal}
use Rattle.rpds_snapshots.specs.declared.snapshots.refusal.SnapRefusal.TheVariants.{NoSnapshot, Full, NoMemory}
use Rattle.rpds_snapshots.specs.declared.snapshots.reply.SnapReply.{SnapReply}
use Rattle.rpds_snapshots.specs.declared.snapshots.reply.SnapReply.TheVariants.{Done, Taken, Refused}

-- the greatest size of a map, and number of snapshots
abbrev pub greatest : ℕ
greatest = 2 ^ 64 - 1

module _ {K V : Type 0} (R : K → K → Ordering) where
  -- REFUSALS

  -- the refusal of a command, want of memory aside
  abbrev pub refusal : Contents K V → SnapCommand K V → Option SnapRefusal
  refusal s (Put k v) = if length s.current.entries == greatest then Some Full else None
  refusal s (TakeOut k) = None
  refusal s Take = if length s.taken == greatest then Some Full else None
  refusal s (GoBack n) = if is_none (slice_get s.taken n) then Some NoSnapshot else None

  -- A command may take memory, but to take a key out of the empty map takes none.
  abbrev pub MayWantMemory : Contents K V → SnapCommand K V → Type 0
  MayWantMemory s (TakeOut k) = s.current.entries ≢ []
  MayWantMemory s command = Unit {0}

  -- the refusal of the first condition that holds, or where none does, want of memory
  abbrev pub IsRefusal : Contents K V → SnapCommand K V → SnapRefusal → Type 0
  IsRefusal s command r = MatchOption (refusal s command) ((r ≡ NoMemory) × MayWantMemory s command) (λ first. r ≡ first)

  -- STEPS

  -- what a command that isn't refused replies to s, and makes of it
  abbrev pub Does : Contents K V → SnapCommand K V → SnapReply → Contents K V → Type 0
  Does s (Put k v) reply s' = (reply ≡ Done true) × (s'.current.entries ≡ put R (k, v) s.current.entries) × (s'.taken ≡ s.taken)
  Does s (TakeOut k) reply s' = MatchOption (find R k s.current.entries)
      ((reply ≡ Done false) × (s' ≡ s))
      (λ pair. (reply ≡ Done true) × (s'.current.entries ≡ without R k s.current.entries) × (s'.taken ≡ s.taken))
  Does s Take reply s' = (reply ≡ Taken (length s.taken)) × (s'.current ≡ s.current) × (s'.taken ≡ s.taken ++ s.current ∷ [])
  Does s (GoBack n) reply s' = (reply ≡ Done true) × (slice_get s.taken n ≡ Some s'.current) × (s'.taken ≡ s.taken)

  -- From s, the command may get the reply and leave s'. What is refused changes nothing.
  abbrev pub Step : Contents K V → SnapCommand K V → SnapReply → Contents K V → Type 0
  Step s command (Refused r) s' = IsRefusal s command r × (s' ≡ s)
  Step s command reply s' = (refusal s command ≡ None) × Does s command reply s'

  -- From s, the commands may get the replies, one for each, and leave s'.
  abbrev pub Run : Contents K V → List (SnapCommand K V) → List SnapReply → Contents K V → Type 0
  Run s [] [] s' = s' ≡ s
  Run s (command ∷ commands) (reply ∷ replies) s' = (mid : _) × Step s command reply mid × Run mid commands replies s'
  Run s [] (reply ∷ replies) s' = ⊥
  Run s (command ∷ commands) [] s' = ⊥
