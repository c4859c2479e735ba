-- What a version's own commands make: those that made it and changed it in place.
use Rattle.std.specs.Prelude.{◌==◌, ◌&&◌, ℕ, Bool, false, List, [], ◌∷◌, Option, None, Some, slice_get, if◌then◌else◌, reverse}
use Rattle.std.specs.List.{zip}
use Rattle.std.specs.Option.{option_and_then}
use Rattle.rpds_table.specs.Compared.{Compared}
use Rattle.rpds_table.specs.Kinds.{Same}
use Rattle.rpds_table.specs.TableContents.{Contents}
use Rattle.rpds_table.specs.Types.{Outcome, Becomes, Command, New, InPlace, Reply, Made, Done, Refused, Version}
use Rattle.rpds_table.specs.Transitions.{Task, makes, changes, task_of}

module _ {K V H A S : Type 0} where
  -- whether the task is a change of version i in place
  abbrev pub is_change_of : ℕ → Task K V H A S → Bool
  is_change_of i (makes early late v) = false
  is_change_of i (changes j New outcome_of) = false
  is_change_of i (changes j InPlace outcome_of) = j == i

  -- whether the reply to the task tells that version i was made, or changed in place
  abbrev pub is_set_by : ℕ → Task K V H A S → Reply → Bool
  is_set_by i task (Made n) = n == i
  is_set_by i task (Done found) = found && is_change_of i task
  is_set_by i task (Refused r) = false

  abbrev pub value_of : Outcome (Version K V H A S) → Option (Version K V H A S)
  value_of (Becomes v) = Some v
  value_of outcome = None

  -- the value that a task gives, of the values that the versions have before it
  abbrev pub given_by : (ℕ → Option (Version K V H A S)) → Task K V H A S → Option (Version K V H A S)
  given_by before (makes early late v) = Some v
  given_by before (changes j mode outcome_of) = option_and_then (λ v. value_of (outcome_of v)) (before j)

module _ {K V H A S : Type 0} (keys : Compared K) where
  -- The value that version i's own commands make, from the table t. The commands come with their replies, the last one
  -- first. The last of them that made version i, or changed it in place, gives the value, of the own value that the
  -- version which it names had before it. Without one it is that of t.
  abbrev pub own : Contents K V H A S → List (Command K V A × Reply) → ℕ → Option (Version K V H A S)
  own t [] i = slice_get t.versions i
  own t (last ∷ earlier) i = if is_set_by {S = S} i (task_of keys t.hasher last.0) last.1 then given_by {S = S} (own t earlier) (task_of keys t.hasher last.0) else own t earlier i

module _ {K V H A S : Type 0} where
  -- Both are none, or both are the same version.
  abbrev pub SameOption : Option (Version K V H A S) → Option (Version K V H A S) → Type 0
  SameOption None None = Unit {0}
  SameOption (Some v) (Some w) = Same v w
  SameOption None (Some w) = ⊥
  SameOption (Some v) None = ⊥

-- the commands with their replies, the last one first
abbrev pub history : {K V A : Type 0} → List (Command K V A) → List Reply → List (Command K V A × Reply)
history commands replies = reverse (zip commands replies)

-- Each version of t' is what its own commands make, and there are no others.
abbrev pub HoldsOwn : {K V H A S : Type 0} → Compared K → Contents K V H A S → List (Command K V A) → List Reply → Contents K V H A S → Type 0
HoldsOwn keys t commands replies t' = (i : ℕ) → SameOption (own keys t (history commands replies) i) (slice_get t'.versions i)
