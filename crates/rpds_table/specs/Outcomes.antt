-- What becomes of a container that is to be changed.
use Rattle.std.specs.Prelude.{◌≡◌, ◌^◌, ◌-◌, nat_lt, ℕ, Bool, true, false, if◌then◌else◌, List, [], ◌∷◌, Option, None, Some, Result, Ok, Err}
use Rattle.rpds_table.specs.declared.table.outcome.Outcome.{Outcome}
use Rattle.rpds_table.specs.declared.table.outcome.Outcome.TheVariants.{Unfit, Full, Nothing, Absent, Becomes}

-- the greatest size of a container, and of a table
abbrev pub greatest : ℕ
greatest = 2 ^ 64 - 1

module _ {T : Type 0} where
  -- nothing where the list is empty, absent where what is looked for isn't in it, else the value
  abbrev pub if_found : {S F : Type 0} → List S → Option F → T → Outcome T
  if_found [] found x = Nothing
  if_found (e ∷ es) None x = Absent
  if_found (e ∷ es) (Some f) x = Becomes x

  -- nothing where the list is empty, else the value
  abbrev pub unless_empty : {S : Type 0} → List S → T → Outcome T
  unless_empty [] x = Nothing
  unless_empty (y ∷ ys) x = Becomes x

  -- nothing where the position is out of range, else the value
  abbrev pub if_in_range : ℕ → ℕ → T → Outcome T
  if_in_range position count x = if nat_lt position count then Becomes x else Nothing

  -- full where this size, each item that is given being a new one, is past the greatest, else the value
  abbrev pub if_room : ℕ → T → Outcome T
  if_room size x = if nat_lt greatest size then Full else Becomes x

  abbrev pub is_unfit : Outcome T → Bool
  is_unfit Unfit = true
  is_unfit outcome = false

  abbrev pub is_full : Outcome T → Bool
  is_full Full = true
  is_full outcome = false

  -- the outcome is reported, and is what became of the old value
  abbrev pub IsDone : {U : Type 0} → (T → T → Type 0) → Outcome T → Outcome U → T → T → Type 0
  IsDone same (Becomes x) (Becomes u) old new = same x new
  IsDone same Unfit Unfit old new = new ≡ old
  IsDone same Full Full old new = new ≡ old
  IsDone same Nothing Nothing old new = new ≡ old
  IsDone same Absent Absent old new = new ≡ old
  IsDone same o reported old new = ⊥

  -- Only what changes a value, or looks for a key that isn't there, may want memory.
  abbrev pub MayWantMemory : Outcome T → Type 0
  MayWantMemory (Becomes x) = Unit {0}
  MayWantMemory Absent = Unit {0}
  MayWantMemory o = ⊥

-- the outcomes are the same, up to when two values are
abbrev pub SameOutcome : {S T : Type 0} → (S → T → Type 0) → Outcome S → Outcome T → Type 0
SameOutcome same (Becomes x) (Becomes y) = same x y
SameOutcome same Unfit Unfit = Unit {0}
SameOutcome same Full Full = Unit {0}
SameOutcome same Nothing Nothing = Unit {0}
SameOutcome same Absent Absent = Unit {0}
SameOutcome same o p = ⊥

-- the outcome for a version of one kind
abbrev pub outcome_map : {S T : Type 0} → (S → T) → Outcome S → Outcome T
outcome_map f (Becomes x) = Becomes (f x)
outcome_map f Unfit = Unfit
outcome_map f Full = Full
outcome_map f Nothing = Nothing
outcome_map f Absent = Absent

-- what a change into a new value returned, by its outcome: that outcome, or that memory was wanted
abbrev pub IsMade : {S T E : Type 0} → (S → T → Type 0) → Outcome S → Result (Outcome T) E → Type 0
IsMade same outcome (Ok made) = SameOutcome same outcome made
IsMade same outcome (Err e) = MayWantMemory outcome

-- what a change in place returned, and what it left
abbrev pub IsEdited : {T U E : Type 0} → (T → T → Type 0) → Outcome T → Result (Outcome U) E → T → T → Type 0
IsEdited same outcome (Ok reported) old new = IsDone same outcome reported old new
IsEdited same outcome (Err e) old new = MayWantMemory outcome × (new ≡ old)
