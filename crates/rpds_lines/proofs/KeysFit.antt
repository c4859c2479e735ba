-- Keys of hashed versions fit in 64 bits. Those of each line fit, so they do.
use Rattle.std.proofs.Common.{◌≡◌, ◌<◌, ◌^◌, ℕ, nat_eq, nat_lt, Bool, true, false, cond, not, All, Option, None, Some, List, [], ◌∷◌, slice_get}
use Rattle.std.proofs.Common.{slice_index_or, refl}
use Rattle.std.proofs.lemmas.List.Elements.{All-cons, All-filter, All-map, All-nil}
use Rattle.std.proofs.lemmas.List.Sorted.{All-permutation}
use Rattle.rpds_hash.specs.declared.identity_build.Identity.{Identity}
use Rattle.rpds_hash.specs.declared.identity_build.IdentityBuild.{IdentityBuild}
use Rattle.rpds_table.specs.Kinds.{Same, outcome_of_op, outcome_of_edit}
use Rattle.rpds_table.specs.Kinds.HashTrieMaps.{with_value}
use Rattle.rpds_table.specs.Outcomes.{greatest, if_found, if_room, outcome_map}
use Rattle.rpds_table.specs.TableContents.{Contents}
use Rattle.rpds_table.specs.Transitions.{Effect, adds_version, puts_version, Task, makes, changes, Transition, effect, effect_at, effect_of_change, refusal}
use Rattle.rpds_table.specs.Transitions.{task_of}
use Rattle.rpds_table.specs.declared.table.command.Command.TheVariants.{Make, MakeDegree, Copy, Change, Extend, WriteAt, WriteKey}
use Rattle.rpds_table.specs.declared.table.command.Command.{Command}
use Rattle.rpds_table.specs.declared.table.edit.Edit.{Edit}
use Rattle.rpds_table.specs.declared.table.mode.Mode.TheVariants.{New, InPlace}
use Rattle.rpds_table.specs.declared.table.mode.Mode.{Mode}
use Rattle.rpds_table.specs.declared.table.op.Op.{Op}
use Rattle.rpds_table.specs.declared.table.outcome.Outcome.TheVariants.{Becomes}
use Rattle.rpds_table.specs.declared.table.outcome.Outcome.{Outcome}
use Rattle.rpds_table.specs.declared.table.reply.Reply.{Reply}
use Rattle.rpds_table.specs.declared.table.version.Version.{Version}
use Rattle.rpds_table.specs.declared.table.edit.Edit.TheVariants as edit
use Rattle.rpds_table.specs.declared.table.kind.Kind.TheVariants as kinds
use Rattle.rpds_table.specs.declared.table.op.Op.TheVariants as ops
use Rattle.rpds_table.specs.declared.table.outcome.Outcome.TheVariants as outcome
use Rattle.rpds_table.specs.declared.table.version.Version.TheVariants as version
use Rattle.rpds_table.proofs.Ordered.{All_after_task, All_slice_get}
use Rattle.rpds_lines.specs.Grammar.Commands.{pieces_of_command}
use Rattle.rpds_lines.specs.Grammar.Ops.{pieces_of_op}
use Rattle.rpds_lines.specs.Grammar.Pieces.{AllFit}
use Rattle.rpds_lines.specs.Sessions.{numbers, hash_of}

-- a version of numbers
abbrev pub NumberVersion : Type 0 → Type 0
NumberVersion A = Version ℕ ℕ IdentityBuild A Identity

written_fits : (k v : ℕ) (es : List (ℕ × ℕ)) → All (λ p. p.0 < 2 ^ 64) es → All (λ p. p.0 < 2 ^ 64) (with_value nat_eq k es v)
written_fits k v es fit = All-map (λ p. p.0 < 2 ^ 64) _ es (λ i d inside. go (slice_index_or es i d) (fit i d inside)) where
  go : (p : ℕ × ℕ) → p.0 < 2 ^ 64 → (cond (nat_eq p.0 k) (p.0, v) p).0 < 2 ^ 64
  go p fits = at (nat_eq p.0 k) where
    at : (b : Bool) → (cond b (p.0, v) p).0 < 2 ^ 64
    at true = fits
    at false = fits

module _ {A : Type 0} where
  abbrev pub KeysFit : NumberVersion A → Type 0
  KeysFit (version.HashTrieMap m) = All (λ p. p.0 < 2 ^ 64) m.entries
  KeysFit (version.HashTrieSet s) = All (λ k. k < 2 ^ 64) s.members
  KeysFit v = Unit {0}

  same_fits : (v w : NumberVersion A) → Same v w → KeysFit v → KeysFit w
  same_fits (version.HashTrieMap m) (version.HashTrieMap n) e fit = All-permutation (λ p. p.0 < 2 ^ 64) m.entries n.entries e.0 fit
  same_fits (version.HashTrieSet s) (version.HashTrieSet t) e fit = All-permutation (λ k. k < 2 ^ 64) s.members t.members e.0 fit
  same_fits v (version.HashTrieMap n) e fit = absurd e
  same_fits v (version.HashTrieSet t) e fit = absurd e
  same_fits v w e fit = tt

  -- OUTCOMES

  abbrev OutcomeFits : Outcome (NumberVersion A) → Type 0
  OutcomeFits (Becomes v) = KeysFit v
  OutcomeFits o = Unit {0}

  lifted : {T : Type 0} (to : T → NumberVersion A) → ((x : T) → KeysFit (to x)) → (o : Outcome T) → OutcomeFits (outcome_map to o)
  lifted to fit (Becomes x) = fit x
  lifted to fit o = tt

  room_fits : {T : Type 0} (to : T → NumberVersion A) (size : ℕ) (x : T) → KeysFit (to x) → OutcomeFits (outcome_map to (if_room size x))
  room_fits to size x fit = go (nat_lt greatest size) where
    go : (b : Bool) → OutcomeFits (outcome_map to (cond b outcome.Full (Becomes x)))
    go true = tt
    go false = fit

  found_fits : {T S F : Type 0} (to : T → NumberVersion A) (xs : List S) (found : Option F) (x : T) → KeysFit (to x)
      → OutcomeFits (outcome_map to (if_found xs found x))
  found_fits to [] found x fit = tt
  found_fits to (y ∷ ys) None x fit = tt
  found_fits to (y ∷ ys) (Some f) x fit = fit

  op_fits : (op : Op ℕ ℕ) → AllFit (pieces_of_op op) → (v : NumberVersion A) → KeysFit v → OutcomeFits (outcome_of_op numbers v op)
  op_fits (ops.Insert k x) pieces (version.HashTrieMap m) fit =
      room_fits version.HashTrieMap _ _ (All-cons (λ p. p.0 < 2 ^ 64) (k, x) _ pieces.1.0 (All-filter (λ p. not (nat_eq p.0 k)) (λ p. p.0 < 2 ^ 64)
      m.entries fit))
  op_fits (ops.Remove k) pieces (version.HashTrieMap m) fit = All-filter (λ p. not (nat_eq p.0 k)) (λ p. p.0 < 2 ^ 64) m.entries fit
  op_fits op pieces (version.HashTrieMap m) fit = tt
  op_fits (ops.InsertItem k) pieces (version.HashTrieSet s) fit =
      room_fits version.HashTrieSet _ _ (All-cons (λ m. m < 2 ^ 64) k _ pieces.1.0 (All-filter (λ m. not (nat_eq m k)) (λ m. m < 2 ^ 64) s.members fit))
  op_fits (ops.RemoveItem k) pieces (version.HashTrieSet s) fit = All-filter (λ m. not (nat_eq m k)) (λ m. m < 2 ^ 64) s.members fit
  op_fits op pieces (version.HashTrieSet s) fit = tt
  op_fits op pieces (version.List xs) fit = lifted version.List (λ x. tt) _
  op_fits op pieces (version.Stack xs) fit = lifted version.Stack (λ x. tt) _
  op_fits op pieces (version.Queue q) fit = lifted version.Queue (λ x. tt) _
  op_fits op pieces (version.Vector v) fit = lifted version.Vector (λ x. tt) _
  op_fits op pieces (version.RedBlackTreeMap m) fit = lifted version.RedBlackTreeMap (λ x. tt) _
  op_fits op pieces (version.RedBlackTreeSet s) fit = lifted version.RedBlackTreeSet (λ x. tt) _

  -- what an edit gives a hashed version fits, where it is an op whose pieces fit, or another edit
  abbrev PiecesFit : Edit ℕ ℕ A → Type 0
  PiecesFit (edit.Change op) = AllFit (pieces_of_op op)
  PiecesFit other = Unit {0}

  edit_fits : (e : Edit ℕ ℕ A) → PiecesFit e → (v : NumberVersion A) → KeysFit v → OutcomeFits (outcome_of_edit numbers v e)
  edit_fits (edit.Change (ops.Remove k)) pieces (version.HashTrieMap m) fit =
      found_fits version.HashTrieMap m.entries _ _ (All-filter (λ p. not (nat_eq p.0 k)) (λ p. p.0 < 2 ^ 64) m.entries fit)
  edit_fits (edit.Change op) pieces (version.HashTrieMap m) fit = op_fits op pieces (version.HashTrieMap m) fit
  edit_fits (edit.WriteKey k x) pieces (version.HashTrieMap m) fit = found_fits version.HashTrieMap m.entries _ _ (written_fits k x m.entries fit)
  edit_fits e pieces (version.HashTrieMap m) fit = tt
  edit_fits (edit.Change (ops.RemoveItem k)) pieces (version.HashTrieSet s) fit =
      found_fits version.HashTrieSet s.members _ _ (All-filter (λ m. not (nat_eq m k)) (λ m. m < 2 ^ 64) s.members fit)
  edit_fits (edit.Change op) pieces (version.HashTrieSet s) fit = op_fits op pieces (version.HashTrieSet s) fit
  edit_fits e pieces (version.HashTrieSet s) fit = tt
  edit_fits e pieces (version.List xs) fit = lifted version.List (λ x. tt) _
  edit_fits e pieces (version.Stack xs) fit = lifted version.Stack (λ x. tt) _
  edit_fits e pieces (version.Queue q) fit = lifted version.Queue (λ x. tt) _
  edit_fits e pieces (version.Vector v) fit = lifted version.Vector (λ x. tt) _
  edit_fits e pieces (version.RedBlackTreeMap m) fit = lifted version.RedBlackTreeMap (λ x. tt) _
  edit_fits e pieces (version.RedBlackTreeSet s) fit = lifted version.RedBlackTreeSet (λ x. tt) _

  -- COMMANDS

  abbrev TaskFits : Task ℕ ℕ IdentityBuild A Identity → Type 0
  TaskFits (makes early late v) = KeysFit v
  TaskFits (changes i mode outcome_of) = (v : NumberVersion A) → KeysFit v → OutcomeFits (outcome_of v)

  task_fits : (hasher : IdentityBuild) (command : Command ℕ ℕ A) → AllFit (pieces_of_command command) → TaskFits (task_of numbers hasher command)
  task_fits hasher (Make kinds.HashTrieMap) pieces = All-nil _
  task_fits hasher (Make kinds.HashTrieSet) pieces = All-nil _
  task_fits hasher (MakeDegree kinds.HashTrieMap degree) pieces = All-nil _
  task_fits hasher (MakeDegree kinds.HashTrieSet degree) pieces = All-nil _
  task_fits hasher (Copy i) pieces = λ v fit. fit
  task_fits hasher (Change i New op) pieces = op_fits op pieces.1.1
  task_fits hasher (Change i InPlace op) pieces = edit_fits (edit.Change op) pieces.1.1
  task_fits hasher (Extend i items) pieces = edit_fits (edit.Extend items) tt
  task_fits hasher (WriteAt i p x) pieces = edit_fits (edit.WriteAt p x) tt
  task_fits hasher (WriteKey i k x) pieces = edit_fits (edit.WriteKey k x) tt
  task_fits hasher command pieces = tt

  abbrev EffectFits : Effect ℕ ℕ IdentityBuild A Identity → Type 0
  EffectFits (adds_version v) = KeysFit v
  EffectFits (puts_version i v) = KeysFit v
  EffectFits e = Unit {0}

  change_fits : (i : ℕ) (mode : Mode) (o : Outcome (NumberVersion A)) → OutcomeFits o → EffectFits (effect_of_change i mode o)
  change_fits i New (Becomes v) fit = fit
  change_fits i InPlace (Becomes v) fit = fit
  change_fits i mode o fit = tt

  effect_fits : (t : List (NumberVersion A)) (task : Task ℕ ℕ IdentityBuild A Identity) → All KeysFit t → TaskFits task → EffectFits (effect t task)
  effect_fits t (makes early late v) all fit = fit
  effect_fits t (changes i mode outcome_of) all fit = at (slice_get t i) refl where
    at : (v : Option (NumberVersion A)) → slice_get t i ≡ v → EffectFits (effect_at i mode outcome_of v)
    at None found = tt
    at (Some v) found = change_fits i mode (outcome_of v) (fit v (All_slice_get KeysFit t i v all found))

  pub keys_fit_after : (t t' : Contents ℕ ℕ IdentityBuild A Identity) (command : Command ℕ ℕ A) (reply : Reply) → AllFit (pieces_of_command command)
      → All KeysFit t.versions → Transition numbers hash_of t command reply t' → All KeysFit t'.versions
  keys_fit_after t t' command reply pieces all step =
      let task = task_of {A = A} {S = Identity} numbers t.hasher command in
      All_after_task numbers hash_of t.versions t'.versions KeysFit EffectFits (λ v w same order fit. same_fits v w same fit)
      (λ i v w same order fit. same_fits v w same fit) all (refusal t.versions task) (effect t.versions task) reply
      (effect_fits t.versions task all (task_fits t.hasher command pieces)) step.1
