-- What a command may do, and how a run goes on.
use Rattle.std.proofs.Common.{slice_set, [], ◌∷◌, ◌++◌, ◌≡◌, ◌==◌, ◌||◌, length, true, false, Option, Some, None, List, slice_get, subst, refl, ℕ, rules}
use Rattle.rpds_table.specs.Compared.{Compared}
use Rattle.rpds_table.specs.Kinds.{IsInOrder, Same}
use Rattle.rpds_table.specs.TableContents.{Contents}
use Rattle.rpds_table.specs.Replies.{reply_to}
use Rattle.rpds_table.specs.Outcomes.{greatest, is_unfit, is_full, SameOutcome, IsDone, MayWantMemory}
use Rattle.rpds_table.specs.Types.{Outcome, Unfit, Nothing, Absent, Becomes, Command, New, InPlace, Refusal, WrongKind, Full, NoMemory, Reply, Made, Refused}
use Rattle.rpds_table.specs.Types.{Done, Version}
use Rattle.rpds_table.specs.declared.table.outcome.Outcome.TheVariants as outcome
use Rattle.rpds_table.specs.Transitions.{Effect, changes, adds_version, puts_version, finds_nothing, finds_no_key, Allows, Performs, Transition, Run}
use Rattle.rpds_table.specs.Transitions.{effect_of_change, first_of_these, is_full_table, refused_if}
use Rattle.rpds_table.proofs.Lists.{slice_set_same}
use Rattle.rpds_table.proofs.Respects.{Same_trans}

module _ {K V H A S : Type 0} where
  -- the refusal of a change in place, want of memory aside
  abbrev pub refusal_at : Outcome (Version K V H A S) → Option Refusal
  refusal_at o = first_of_these (refused_if (is_unfit o) WrongKind ∷ refused_if (is_full o || false) Full ∷ [])

  -- a change in place adds no version
  pub adds_none : (t : List (Version K V H A S)) (i : ℕ) (o : Outcome (Version K V H A S)) → is_full_table t (effect_of_change i InPlace o) ≡ false
  adds_none t i Unfit = refl
  adds_none t i outcome.Full = refl
  adds_none t i Nothing = refl
  adds_none t i Absent = refl
  adds_none t i (Becomes w) = refl

  -- the refusal of a change into a new version
  abbrev pub refusal_into_new : List (Version K V H A S) → ℕ → Outcome (Version K V H A S) → Option Refusal
  refusal_into_new t i o = first_of_these (refused_if (is_unfit o) WrongKind ∷ refused_if (is_full o || is_full_table t (effect_of_change i New o)) Full ∷ [])

module _ {K V H A S : Type 0} (keys : Compared K) (hash : H → K → ℕ) (t : List (Version K V H A S)) (i : ℕ)
    (outcome_of : Version K V H A S → Outcome (Version K V H A S)) (v : Version K V H A S) (found : slice_get t i ≡ Some v) where
  -- with its version at hand, a change in place may do what its outcome says
  in_place : (reply : Reply) (t' : List (Version K V H A S)) → Allows keys hash (refusal_at (outcome_of v)) (effect_of_change i InPlace (outcome_of v)) t
      reply t' → Performs keys hash t (changes i InPlace outcome_of) reply t'
  in_place reply t' h = rw (found, adds_none t i (outcome_of v)) h

  -- a change in place that tells its outcome
  pub reported_in_place : {U : Type 0} (reported : Outcome U) (w : Version K V H A S) → IsInOrder keys hash w → IsDone Same (outcome_of v) reported v w
      → Performs keys hash t (changes i InPlace outcome_of) (reply_to reported) (slice_set t i w)
  reported_in_place reported w follows done = in_place _ _ (at (outcome_of v) reported done) where
    at : {U : Type 0} (o : Outcome (Version K V H A S)) (reported : Outcome U) → IsDone Same o reported v w → Allows keys hash (refusal_at o)
        (effect_of_change i InPlace o) t (reply_to reported) (slice_set t i w)
    at Unfit Unfit h = (refl, rw h (slice_set_same t i v found))
    at outcome.Full outcome.Full h = (refl, rw h (slice_set_same t i v found))
    at Nothing Nothing h = (refl, rw h (slice_set_same t i v found))
    at Absent Absent h = (refl, rw h (slice_set_same t i v found))
    at (Becomes x) (Becomes u) h = (refl, (w, h, follows, refl))
    at o reported h = search rules

  -- a change in place that was refused for memory
  pub refused_in_place : MayWantMemory (outcome_of v) → Performs keys hash t (changes i InPlace outcome_of) (Refused NoMemory) (slice_set t i v)
  refused_in_place wants = in_place _ _ (at (outcome_of v) wants) where
    at : (o : Outcome (Version K V H A S)) → MayWantMemory o → Allows keys hash (refusal_at o) (effect_of_change i InPlace o) t (Refused NoMemory)
        (slice_set t i v)
    at (Becomes u) e = (refl, slice_set_same t i v found)
    at Absent e = (refl, slice_set_same t i v found)
    at o e = search rules

  -- with its version at hand, a change into a new version may do what its outcome says
  into_new : (reply : Reply) (t' : List (Version K V H A S)) → Allows keys hash (refusal_into_new t i (outcome_of v))
      (effect_of_change i New (outcome_of v)) t reply t' → Performs keys hash t (changes i New outcome_of) reply t'
  into_new reply t' h = rw found h

  -- a change into a new version that makes none
  pub reported_into_new : (reported : Outcome (Version K V H A S)) → ((w : _) → reported ≡ Becomes w → ⊥) → SameOutcome Same (outcome_of v) reported
      → Performs keys hash t (changes i New outcome_of) (reply_to reported) t
  reported_into_new reported none same = into_new _ _ (at (outcome_of v) reported none same) where
    at : (o reported : Outcome (Version K V H A S)) → ((w : _) → reported ≡ Becomes w → ⊥) → SameOutcome Same o reported
        → Allows keys hash (refusal_into_new t i o) (effect_of_change i New o) t (reply_to reported) t
    at Unfit Unfit none h = (refl, refl)
    at outcome.Full outcome.Full none h = (refl, refl)
    at Nothing Nothing none h = (refl, refl)
    at Absent Absent none h = (refl, refl)
    at (Becomes x) (Becomes u) none h = absurd (none u refl)
    at o reported none h = search rules

  -- what a change made is added
  pub made_into_new : (length t == greatest) ≡ false → (w : Version K V H A S) (reply : Reply) (t' : List (Version K V H A S))
      → SameOutcome Same (outcome_of v) (Becomes w) → Allows keys hash None (adds_version w) t reply t'
      → Performs keys hash t (changes i New outcome_of) reply t'
  made_into_new space w reply t' made step = into_new reply t' (at (outcome_of v) made) where
    adds : (u : Version K V H A S) (reply : Reply) → Same u w → Allows keys hash None (adds_version w) t reply t'
        → Allows keys hash None (adds_version u) t reply t'
    adds u (Made n) same h = (h.0, (h.1.0, Same_trans u w h.1.0 same h.1.1, h.1.2, h.1.3))
    adds u (Refused r) same h = h
    adds u (Done b) same h = absurd h

    at : (o : Outcome (Version K V H A S)) → SameOutcome Same o (Becomes w) → Allows keys hash (refusal_into_new t i o) (effect_of_change i New o) t reply t'
    at (Becomes u) same = rw space (adds u reply same step)
    at o same = search rules

  -- a change into a new version that was refused for memory
  pub refused_into_new : (length t == greatest) ≡ false → MayWantMemory (outcome_of v) → Performs keys hash t (changes i New outcome_of) (Refused NoMemory) t
  refused_into_new space h = into_new (Refused NoMemory) t (at (outcome_of v) h) where
    at : (o : Outcome (Version K V H A S)) → MayWantMemory o → Allows keys hash (refusal_into_new t i o) (effect_of_change i New o) t (Refused NoMemory) t
    at (Becomes u) e = rw space (refl, refl)
    at Absent e = (refl, refl)
    at o e = search rules

module _ {K V H A S : Type 0} (keys : Compared K) (hash : H → K → ℕ) (t t' : List (Version K V H A S))
    (P : Effect K V H A S → Reply → List (Version K V H A S) → Type 0) where
  -- what holds where nothing was changed, where a version was added, and where one was put, holds after each task
  pub after_task : ((e : Effect K V H A S) (r : Refusal) → P e (Refused r) t) → ((e : Effect K V H A S) → P e (Done false) t)
      → ((v w : Version K V H A S) → Same v w → IsInOrder keys hash w → P (adds_version v) (Made (length t)) (t ++ w ∷ []))
      → ((i : ℕ) (v w : Version K V H A S) → Same v w → IsInOrder keys hash w → P (puts_version i v) (Done true) (slice_set t i w))
      → (due : Option Refusal) (e : Effect K V H A S) (reply : Reply) → Allows keys hash due e t reply t' → P e reply t'
  after_task refused nothing added put (Some r) e reply s = rw (s.0, s.1) (refused e r)
  after_task refused nothing added put None (adds_version v) (Made n) s = rw (s.0, s.1.3) (added v s.1.0 s.1.1 s.1.2)
  after_task refused nothing added put None (puts_version i v) (Done b) s = rw (s.0, s.1.3) (put i v s.1.0 s.1.1 s.1.2)
  after_task refused nothing added put None finds_nothing (Done b) s = rw (s.0, s.1) (nothing finds_nothing)
  after_task refused nothing added put None finds_no_key (Done b) s = rw (s.0, s.1) (nothing finds_no_key)
  after_task refused nothing added put None (adds_version v) (Refused r) s = rw s.1 (refused (adds_version v) r)
  after_task refused nothing added put None (puts_version i v) (Refused r) s = rw s.1 (refused (puts_version i v) r)
  after_task refused nothing added put None finds_no_key (Refused r) s = rw s.1 (refused finds_no_key r)
  after_task refused nothing added put None e reply s = absurd s

module _ {K V H A S : Type 0} (keys : Compared K) (hash : H → K → ℕ) where
  -- a run goes on by a step
  pub run_more : (cs : List (Command K V A)) (ys : List Reply) (t mid t' : Contents K V H A S) (c : Command K V A) (y : Reply) → Run keys hash t cs ys mid
      → Transition keys hash mid c y t' → Run keys hash t (cs ++ c ∷ []) (ys ++ y ∷ []) t'
  run_more [] [] t mid t' c y run step = (t', subst (λ m. Transition keys hash m c y t') run step, refl)
  run_more (d ∷ cs) (z ∷ ys) t mid t' c y run step = (run.0, run.1, run_more cs ys run.0 mid t' c y run.2 step)
  run_more cs ys t mid t' c y run step = absurd run
