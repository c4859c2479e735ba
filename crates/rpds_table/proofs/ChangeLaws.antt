-- What a copy and a change in place leave.
use Rattle.std.proofs.Common.{◌≡◌, ◌≢◌, ◌==◌, ◌<◌, ◌||◌, ◌⊎◌, inl, inr, ⊎_elim, ℕ, ◌+◌, Bool, true, false, Option, Some, None, List, [], ◌∷◌, ◌++◌, length}
use Rattle.std.proofs.Common.{take}
use Rattle.std.proofs.Common.{slice_get, slice_set, nat_lt, is_none, cond, refl, ap, ◌∙◌}
use Rattle.std.proofs.Math.Seq.{take-append_seam}
use Rattle.std.proofs.lemmas.List.{take-set}
use Rattle.std.proofs.lemmas.Option.{slice_get_within}
use Rattle.rpds_tree.specs.OrderedMap.{OrderedMap}
use Rattle.rpds_tree.specs.Pairs.{find, put, without}
use Rattle.rpds_table.specs.Compared.{Compared}
use Rattle.rpds_table.specs.History.{SameOption}
use Rattle.rpds_table.specs.Kinds.{map_of_pairs, outcome_of_edit}
use Rattle.rpds_table.specs.Kinds.RedBlackTreeMaps.{pairs_after, outcome_of_edit as outcome_of_map_edit}
use Rattle.rpds_table.specs.Outcomes.{outcome_map, if_found, greatest}
use Rattle.rpds_table.specs.TableContents.{Contents}
use Rattle.rpds_table.specs.Transitions.{Allows, Effect, Transition, adds_version, puts_version, changes, effect_at, effect_of_change, first_of_these}
use Rattle.rpds_table.specs.Transitions.{is_full_table, is_full_version, is_wrong_kind, refused_if, refusal}
use Rattle.rpds_table.proofs.Lists.{slice_get_append_length, slice_get_slice_set, slice_get_slice_set_other}
use Rattle.rpds_table.proofs.Respects.{Same_trans}
use Rattle.rpds_table.proofs.Transitions.{after_task}
use Rattle.rpds_table.specs.Types.{Change, Copy, Mode, New, InPlace, Op, Outcome, Nothing, Absent, Becomes, Refusal, NoVersion, WrongKind, Full}
use Rattle.rpds_table.specs.Types.{Reply, Made, Done, Refused, Version}
use Rattle.rpds_table.specs.declared.table.edit.Edit.TheVariants as edit
use Rattle.rpds_table.specs.declared.table.op.Op.TheVariants.{Insert, Remove}
use Rattle.rpds_table.specs.declared.table.outcome.Outcome.TheVariants as outcome
use Rattle.rpds_table.specs.declared.table.version.Version.TheVariants as version

-- The reply tells of no version that was made.
abbrev MakesNone : Reply → Type 0
MakesNone (Made n) = ⊥
MakesNone reply = Unit {0}

-- WHAT CHANGES MAKE OF A MAP

module _ {K V : Type 0} (keys : Compared K) where
  -- what an outcome of an op on these pairs tells: the pairs after it, or that a key was to be taken out that isn't there
  abbrev IsAfter : List (K × V) → Op K V → Outcome (OrderedMap K V) → Type 0
  IsAfter es op (Becomes m) = pairs_after keys.cmp es op ≡ m.entries
  IsAfter es op Nothing = (key : K) × (op ≡ Remove key) × (find keys.cmp key es ≡ None)
  IsAfter es op Absent = (key : K) × (op ≡ Remove key) × (find keys.cmp key es ≡ None)
  IsAfter es op out = Unit {0}

  is_after : (A : Type 0) (m : OrderedMap K V) (op : Op K V) → IsAfter m.entries op (outcome_of_map_edit keys {A = A} m (edit.Change op))
  is_after A m (Insert key value) = room (nat_lt greatest (length m.entries + 1)) where
    room : (full : Bool) → IsAfter m.entries (Insert key value) (cond full outcome.Full (Becomes (record m { entries = put keys.cmp (key, value) m.entries })))
    room true = tt
    room false = refl
  is_after A m (Remove key) = there m.entries (find keys.cmp key m.entries) refl where
    there : (es : List (K × V)) (found : Option (K × V)) → find keys.cmp key es ≡ found
        → IsAfter es (Remove key) (if_found es found (record m { entries = without keys.cmp key es }))
    there [] found at = (key, refl, refl)
    there (e ∷ es) None at = (key, refl, at)
    there (e ∷ es) (Some f) at = refl
  is_after A m op = tt

module _ {K V H A S : Type 0} (keys : Compared K) (hash : H → K → ℕ) where
  -- A change of the version of a number, which is this one, may get the reply and leave t'.
  abbrev pub StepsAt : ℕ → Mode → (Version K V H A S → Outcome (Version K V H A S)) → Option (Version K V H A S) → List (Version K V H A S) → Reply
      → List (Version K V H A S) → Type 0
  StepsAt i mode outcome_of o t reply t' =
      Allows keys hash (first_of_these (
      refused_if (is_none o) NoVersion ∷ refused_if (is_wrong_kind outcome_of o) WrongKind
      ∷ refused_if (is_full_version outcome_of o || is_full_table t (effect_at i mode outcome_of o)) Full ∷ []))
      (effect_at i mode outcome_of o) t reply t'

  -- COPIES

  -- what a copy of this version replies and leaves
  abbrev Copies : Option (Version K V H A S) → List (Version K V H A S) → Reply → List (Version K V H A S) → Type 0
  Copies o t (Made n) t' = (n ≡ length t) × (w : Version K V H A S) × SameOption o (Some w) × (t' ≡ t ++ w ∷ [])
  Copies o t (Refused r) t' = t' ≡ t
  Copies o t (Done found) t' = ⊥

  copies_one : (v : Version K V H A S) (t t' : List (Version K V H A S)) (reply : Reply) (full : Bool)
      → Allows keys hash (first_of_these (refused_if full Full ∷ [])) (adds_version v) t reply t' → Copies (Some v) t reply t'
  copies_one v t t' (Made n) false step = (step.0, step.1.0, step.1.1, step.1.3)
  copies_one v t t' (Done found) false step = step
  copies_one v t t' (Refused r) false step = step.1
  copies_one v t t' (Refused r) true step = step.1
  copies_one v t t' reply true step = absurd (cc)

  copies_at : (o : Option (Version K V H A S)) (t t' : List (Version K V H A S)) (i : ℕ) (reply : Reply)
      → StepsAt i New (λ v. Becomes v) o t reply t' → Copies o t reply t'
  copies_at (Some v) t t' i reply step = copies_one v t t' reply (length t == greatest) step
  copies_at None t t' i (Refused r) step = step.1
  copies_at None t t' i reply step = absurd (cc)

  pub copied : (t t' : Contents K V H A S) (i n : ℕ) → Transition keys hash t (Copy i) (Made n) t'
      → (n ≡ length t.versions) × (take n t'.versions ≡ t.versions) × SameOption (slice_get t.versions i) (slice_get t'.versions n)
  copied t t' i n step =
      let c = copies_at (slice_get t.versions i) t.versions t'.versions i (Made n) step.1 in (
        c.0,
        ap (λ k. take k t'.versions) c.0 ∙ ap (take (length t.versions)) c.3 ∙ take-append_seam t.versions (c.1 ∷ []),
        rw (c.0, c.3, slice_get_append_length t.versions c.1) c.2,
      )

  pub copy_refused : (t t' : Contents K V H A S) (i : ℕ) (r : Refusal) → Transition keys hash t (Copy i) (Refused r) t' → t'.versions ≡ t.versions
  copy_refused t t' i r step = copies_at (slice_get t.versions i) t.versions t'.versions i (Refused r) step.1

  pub copy_is_made : (t t' : Contents K V H A S) (i : ℕ) (found : Bool) → Transition keys hash t (Copy i) (Done found) t' → ⊥
  copy_is_made t t' i found step = copies_at (slice_get t.versions i) t.versions t'.versions i (Done found) step.1

  -- CHANGES IN PLACE

  abbrev IsInPlace : ℕ → Effect K V H A S → Type 0
  IsInPlace i (adds_version v) = ⊥
  IsInPlace i (puts_version j v) = j ≡ i
  IsInPlace i effect = Unit {0}

  in_place : (i : ℕ) (outcome_of : Version K V H A S → Outcome (Version K V H A S)) (o : Option (Version K V H A S))
      → IsInPlace i (effect_at i InPlace outcome_of o)
  in_place i outcome_of None = tt
  in_place i outcome_of (Some v) = at (outcome_of v) where
    at : (out : Outcome (Version K V H A S)) → IsInPlace i (effect_of_change i InPlace out)
    at (Becomes w) = refl
    at out = tt

  -- what a change in place replies and leaves: the versions, or one in the place of its own
  edits : (t t' : Contents K V H A S) (i : ℕ) (op : Op K V) (reply : Reply) → Transition keys hash t (Change i InPlace op) reply t'
      → MakesNone reply × ((t'.versions ≡ t.versions) ⊎ ((w : Version K V H A S) × (t'.versions ≡ slice_set t.versions i w)))
  edits t t' i op reply step =
      let outcome_of : Version K V H A S → Outcome (Version K V H A S) = λ v. outcome_of_edit keys v (edit.Change op) in
      let effect = effect_at i InPlace outcome_of (slice_get t.versions i) in
      after_task keys hash t.versions t'.versions
      (λ e y u. IsInPlace i e → MakesNone y × ((u ≡ t.versions) ⊎ ((w : Version K V H A S) × (u ≡ slice_set t.versions i w))))
      (λ e r here. (tt, inl refl)) (λ e here. (tt, inl refl)) (λ v w same order here. absurd here) (λ j v w same order here.
      (tt, inr (w, ap (λ k. slice_set t.versions k w) here)))
      (refusal t.versions (changes i InPlace outcome_of)) effect reply step.1 (in_place i outcome_of (slice_get t.versions i))

  pub others_stay : (t t' : Contents K V H A S) (i j : ℕ) (op : Op K V) (reply : Reply) → i ≢ j → Transition keys hash t (Change i InPlace op) reply t'
      → slice_get t'.versions j ≡ slice_get t.versions j
  others_stay t t' i j op reply differ step =
      ⊎_elim (λ is. ap (λ l. slice_get l j) is) (λ w. ap (λ l. slice_get l j) w.1 ∙ slice_get_slice_set_other t.versions w.0 i j differ)
      (edits t t' i op reply step).1

  pub before_stay : (t t' : Contents K V H A S) (i : ℕ) (op : Op K V) (reply : Reply) → Transition keys hash t (Change i InPlace op) reply t'
      → take i t'.versions ≡ take i t.versions
  before_stay t t' i op reply step = ⊎_elim (λ is. ap (take i) is) (λ w. ap (take i) w.1 ∙ take-set t.versions i w.0) (edits t t' i op reply step).1

  pub none_made : (t t' : Contents K V H A S) (i n : ℕ) (op : Op K V) → Transition keys hash t (Change i InPlace op) (Made n) t' → ⊥
  none_made t t' i n op step = (edits t t' i op (Made n) step).0

  -- CHANGES OF AN ORDERED MAP

  -- what a change in place of an ordered map of these pairs leaves, where something was done and where nothing was
  abbrev Settles : ℕ → List (K × V) → Op K V → Bool → List (Version K V H A S) → Type 0
  Settles i es op true t' = SameOption (Some (map_of_pairs (pairs_after keys.cmp es op))) (slice_get t' i)
  Settles i es op false t' = (key : K) × (op ≡ Remove key) × (find keys.cmp key es ≡ None)

  settles : (i : ℕ) (t t' : List (Version K V H A S)) → i < length t → (v : Version K V H A S) (op : Op K V) (es : List (K × V)) (found : Bool)
      (out : Outcome (OrderedMap K V))
      → IsAfter keys es op out → StepsAt i InPlace (λ v. outcome_map version.RedBlackTreeMap out) (Some v) t (Done found) t' → Settles i es op found t'
  settles i t t' within v op es true (Becomes m) after step =
      rw (step.1.3, slice_get_slice_set t step.1.0 i within) (Same_trans (map_of_pairs (pairs_after keys.cmp es op)) (version.RedBlackTreeMap m) step.1.0
      after step.1.1)
  settles i t t' within v op es false Nothing after step = after
  settles i t t' within v op es false Absent after step = after
  settles i t t' within v op es found out after step = absurd (cc)

  settles_at : (i : ℕ) (t t' : List (Version K V H A S)) (op : Op K V) (es : List (K × V)) (found : Bool) (o : Option (Version K V H A S)) → slice_get t i ≡ o
      → SameOption (Some (map_of_pairs es)) o → StepsAt i InPlace (λ v. outcome_of_edit keys v (edit.Change op)) o t (Done found) t' → Settles i es op found t'
  settles_at i t t' op es found (Some (version.RedBlackTreeMap m)) is same step =
      settles i t t' (slice_get_within t i _ is) (version.RedBlackTreeMap m) op es found (outcome_of_map_edit keys {A = A} m (edit.Change op))
      (rw same (is_after keys A m op)) step
  settles_at i t t' op es found o is same step = absurd same

  pub map_changed : (t t' : Contents K V H A S) (i : ℕ) (op : Op K V) (pairs after : List (K × V)) → after ≡ pairs_after keys.cmp pairs op
      → SameOption (Some (map_of_pairs pairs)) (slice_get t.versions i) → Transition keys hash t (Change i InPlace op) (Done true) t'
      → SameOption (Some (map_of_pairs after)) (slice_get t'.versions i)
  map_changed t t' i op pairs after is map step = rw is (settles_at i t.versions t'.versions op pairs true (slice_get t.versions i) refl map step.1)

  pub nothing_changed : (t t' : Contents K V H A S) (i : ℕ) (op : Op K V) (pairs : List (K × V)) → SameOption (Some (map_of_pairs pairs))
      (slice_get t.versions i)
      → Transition keys hash t (Change i InPlace op) (Done false) t' → (key : K) × (op ≡ Remove key) × (find keys.cmp key pairs ≡ None)
  nothing_changed t t' i op pairs map step = settles_at i t.versions t'.versions op pairs false (slice_get t.versions i) refl map step.1
