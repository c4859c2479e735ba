-- What commands do to a table of versions.
use Rattle.std.specs.Prelude.{◌≡◌, ◌==◌, ◌||◌, ◌&&◌, not, nat_le, ℕ, Bool, true, false, List, [], ◌∷◌, ◌++◌, length, Option, None, Some, slice_get, slice_set, if◌then◌else◌, is_none}
use Rattle.std.specs.List.{list_any}
use Rattle.std.specs.Map.{keys_of}
use Rattle.std.specs.Option.{option_map, option_map_or, option_or}
use Rattle.rpds_tree.specs.Sorted.{first_out_of_order}
use Rattle.rpds_table.specs.Compared.{Compared}
use Rattle.rpds_table.specs.Kinds.{IsInOrder, Same, is_hashed, empty, empty_of_degree, empty_vector, map_of_pairs, set_of_members, outcome_of_op, outcome_of_edit}
use Rattle.rpds_table.specs.Outcomes.{greatest, is_unfit, is_full}
use Rattle.rpds_table.specs.declared.table.edit.Edit.TheVariants as edit
use Rattle.rpds_table.specs.Types.{Outcome, Absent, Becomes, Command, Make, MakeBits, MakeDegree, MakeSorted, MakeSortedItems, Copy, Change, Extend, WriteAt, WriteKey, Mode, New, InPlace, Refusal, Reply, Made, Done, Refused, Version}
use Rattle.rpds_table.specs.declared.table.refusal.Refusal.TheVariants as refusals
use Rattle.rpds_table.specs.TableContents.{Contents}

-- COMMANDS

-- whether no vector's digits can have these bits
abbrev pub is_bad_bits : ℕ → Bool
is_bad_bits bits = not (nat_le 1 bits && nat_le bits 63)

-- whether a hashed container can't have this degree
abbrev pub is_bad_degree : ℕ → Bool
is_bad_degree degree = not (list_any (λ d. d == degree) (2 ∷ 4 ∷ 8 ∷ 16 ∷ 32 ∷ 64 ∷ []))

-- what a command asks for
pub data Task (K V H A S : Type 0) : Type 0 where
  -- this new version, which is made of no other one; with it the refusals that are due before the table's want of room,
  -- and those that are due after it
  makes : List (Option Refusal) → List (Option Refusal) → Version K V H A S → Task K V H A S
  -- a change of the version of this number, in this mode: what becomes of the version
  changes : ℕ → Mode → (Version K V H A S → Outcome (Version K V H A S)) → Task K V H A S

-- the refusal, where the condition holds
abbrev pub refused_if : Bool → Refusal → Option Refusal
refused_if holds r = if holds then Some r else None

-- the refusal of a list that doesn't ascend, with the position at which it first fails to
abbrev pub refused_at : Option ℕ → Option Refusal
refused_at position = option_map refusals.NotAscending position

abbrev pub task_of : {K V H A S : Type 0} → Compared K → H → Command K V A → Task K V H A S
task_of keys hasher (Make kind) = makes [] [] (empty hasher kind)
task_of keys hasher (MakeBits bits) = makes (refused_if (is_bad_bits bits) refusals.BadBits ∷ []) [] (empty_vector bits)
task_of keys hasher (MakeDegree kind degree) = makes (refused_if (not (is_hashed kind)) refusals.WrongKind ∷ refused_if (is_bad_degree degree) refusals.BadDegree ∷ []) [] (empty_of_degree hasher degree kind)
task_of keys hasher (MakeSorted pairs) = makes [] (refused_at (first_out_of_order keys.cmp (keys_of pairs.items)) ∷ []) (map_of_pairs pairs.items)
task_of keys hasher (MakeSortedItems items) = makes [] (refused_at (first_out_of_order keys.cmp items.items) ∷ []) (set_of_members items.items)
task_of keys hasher (Copy i) = changes i New (λ v. Becomes v)
task_of keys hasher (Change i New op) = changes i New (λ v. outcome_of_op keys v op)
task_of keys hasher (Change i InPlace op) = changes i InPlace (λ v. outcome_of_edit keys v (edit.Change op))
task_of keys hasher (Extend i items) = changes i InPlace (λ v. outcome_of_edit keys v (edit.Extend items))
task_of keys hasher (WriteAt i p x) = changes i InPlace (λ v. outcome_of_edit keys v (edit.WriteAt p x))
task_of keys hasher (WriteKey i k x) = changes i InPlace (λ v. outcome_of_edit keys v (edit.WriteKey k x))

-- what a task that isn't refused does to the table
pub data Effect (K V H A S : Type 0) : Type 0 where
  -- it adds this version
  adds_version : Version K V H A S → Effect K V H A S
  -- it puts this one in the place of the version of that number
  puts_version : ℕ → Version K V H A S → Effect K V H A S
  -- it changes nothing, and takes no memory
  finds_nothing : Effect K V H A S
  -- it changes nothing, but may take memory on its way
  finds_no_key : Effect K V H A S

module _ {K V H A S : Type 0} where
  abbrev pub effect_of_change : ℕ → Mode → Outcome (Version K V H A S) → Effect K V H A S
  effect_of_change i New (Becomes w) = adds_version w
  effect_of_change i InPlace (Becomes w) = puts_version i w
  effect_of_change i mode Absent = finds_no_key
  effect_of_change i mode outcome = finds_nothing

  -- the effect of a change of version i, if there is one
  abbrev pub effect_at : ℕ → Mode → (Version K V H A S → Outcome (Version K V H A S)) → Option (Version K V H A S) → Effect K V H A S
  effect_at i mode outcome_of None = finds_nothing
  effect_at i mode outcome_of (Some v) = effect_of_change i mode (outcome_of v)

  abbrev pub effect : List (Version K V H A S) → Task K V H A S → Effect K V H A S
  effect t (makes early late v) = adds_version v
  effect t (changes i mode outcome_of) = effect_at i mode outcome_of (slice_get t i)

  -- REFUSALS

  -- The version isn't of a kind that the change fits.
  abbrev pub is_wrong_kind : (Version K V H A S → Outcome (Version K V H A S)) → Option (Version K V H A S) → Bool
  is_wrong_kind outcome_of v = option_map_or (λ v. is_unfit (outcome_of v)) v false

  -- The version would pass the greatest size, were each item that is given a new one.
  abbrev pub is_full_version : (Version K V H A S → Outcome (Version K V H A S)) → Option (Version K V H A S) → Bool
  is_full_version outcome_of v = option_map_or (λ v. is_full (outcome_of v)) v false

  -- A version is to be added to a table of the greatest length.
  abbrev pub is_full_table : List (Version K V H A S) → Effect K V H A S → Bool
  is_full_table t (adds_version v) = length t == greatest
  is_full_table t effect = false

-- the first refusal that is due
abbrev pub first_of_these : List (Option Refusal) → Option Refusal
first_of_these [] = None
first_of_these (r ∷ rs) = option_or r (first_of_these rs)

module _ {K V H A S : Type 0} where
  -- the refusal of a task, want of memory aside: the first that is due in the order of their numbers
  abbrev pub refusal : List (Version K V H A S) → Task K V H A S → Option Refusal
  refusal t (makes early late v) = first_of_these (early ++ refused_if (is_full_table t (adds_version v)) refusals.Full ∷ late)
  refusal t (changes i mode outcome_of) =
      first_of_these (
      refused_if (is_none (slice_get t i)) refusals.NoVersion
      ∷ refused_if (is_wrong_kind outcome_of (slice_get t i)) refusals.WrongKind
      ∷ refused_if (is_full_version outcome_of (slice_get t i) || is_full_table t (effect t (changes i mode outcome_of))) refusals.Full
      ∷ [])

-- TRANSITIONS

module _ {K V H A S : Type 0} (keys : Compared K) (hash : H → K → ℕ) where
  -- t' is t with a version at its end that is the same as v, and is in the order of its kind
  abbrev pub AddsVersion : Version K V H A S → List (Version K V H A S) → List (Version K V H A S) → Type 0
  AddsVersion v t t' = (w : _) × Same v w × IsInOrder keys hash w × (t' ≡ t ++ w ∷ [])

  -- t' is t with such a version in the place of version i
  abbrev pub PutsVersion : ℕ → Version K V H A S → List (Version K V H A S) → List (Version K V H A S) → Type 0
  PutsVersion i v t t' = (w : _) × Same v w × IsInOrder keys hash w × (t' ≡ slice_set t i w)

  -- From t, a task with this refusal and this effect may get the reply and leave t'.
  abbrev pub Allows : Option Refusal → Effect K V H A S → List (Version K V H A S) → Reply → List (Version K V H A S) → Type 0
  -- what is refused changes nothing
  Allows (Some r) effect t reply t' = (reply ≡ Refused r) × (t' ≡ t)
  -- the number of a new version is the length before
  Allows None (adds_version v) t (Made n) t' = (n ≡ length t) × AddsVersion v t t'
  Allows None (puts_version i v) t (Done found) t' = (found ≡ true) × PutsVersion i v t t'
  Allows None finds_nothing t (Done found) t' = (found ≡ false) × (t' ≡ t)
  Allows None finds_no_key t (Done found) t' = (found ≡ false) × (t' ≡ t)
  -- memory may be refused where a version is to be added or changed, or a key is looked for on the way to a change
  Allows None (adds_version v) t (Refused r) t' = (r ≡ refusals.NoMemory) × (t' ≡ t)
  Allows None (puts_version i v) t (Refused r) t' = (r ≡ refusals.NoMemory) × (t' ≡ t)
  Allows None finds_no_key t (Refused r) t' = (r ≡ refusals.NoMemory) × (t' ≡ t)
  -- no other reply comes
  Allows None (adds_version v) t (Done found) t' = ⊥
  Allows None (puts_version i v) t (Made n) t' = ⊥
  Allows None finds_nothing t (Made n) t' = ⊥
  Allows None finds_nothing t (Refused r) t' = ⊥
  Allows None finds_no_key t (Made n) t' = ⊥

  -- From t, the task may get the reply and leave t'.
  abbrev pub Performs : List (Version K V H A S) → Task K V H A S → Reply → List (Version K V H A S) → Type 0
  Performs t task reply t' = Allows (refusal t task) (effect t task) t reply t'

  -- From t, the command may get the reply and leave t'. No command changes the hasher.
  abbrev pub Transition : Contents K V H A S → Command K V A → Reply → Contents K V H A S → Type 0
  Transition t command reply t' = (t'.hasher ≡ t.hasher) × Performs t.versions (task_of keys t.hasher command) reply t'.versions

  -- From t, the commands may get the replies, one for each, and leave t'.
  abbrev pub Run : Contents K V H A S → List (Command K V A) → List Reply → Contents K V H A S → Type 0
  Run t [] [] t' = t' ≡ t
  Run t (command ∷ commands) (reply ∷ replies) t' = (mid : _) × Transition t command reply mid × Run mid commands replies t'
  Run t [] (reply ∷ replies) t' = ⊥
  Run t (command ∷ commands) [] t' = ⊥
