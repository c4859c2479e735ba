-- Each version is what its own commands make. Nothing here speaks of a kind or of a command.
use Rattle.std.proofs.Common.{[], ◌∷◌, ◌++◌, ◌≡◌, ◌==◌, cond, Option, Some, None, List, slice_get, length, sym, append_assoc, length-append, ◌∙◌, ap, subst}
use Rattle.std.proofs.Common.{refl, ℕ, ◌<◌, arith, reverse}
use Rattle.std.specs.List.{zip}
use Rattle.std.specs.Option.{option_and_then}
use Rattle.std.proofs.lemmas.Option.{slice_get_within}
use Rattle.std.proofs.lemmas.List.{append-nil, reverse-append}
use Rattle.rpds_table.specs.Types.{Outcome, Becomes, Command, Mode, New, InPlace, Reply, Version}
use Rattle.rpds_table.specs.Transitions.{Effect, adds_version, puts_version, finds_nothing, finds_no_key, Task, makes, changes, task_of, Performs, Run}
use Rattle.rpds_table.specs.Transitions.{effect_of_change, effect_at, effect, refusal}
use Rattle.rpds_table.specs.Compared.{Compared}
use Rattle.rpds_table.specs.TableContents.{Contents}
use Rattle.rpds_table.specs.History.{value_of, given_by, is_set_by, is_change_of, own, SameOption, history, HoldsOwn}
use Rattle.rpds_table.proofs.Lists.{slice_get_append, slice_get_set, zip_append}
use Rattle.rpds_table.proofs.Respects.{Same_refl, same_cond, same_option, same_option_then, same_value, TaskRespects, task_respects}
use Rattle.rpds_table.proofs.Transitions.{after_task}

module _ {K V H A S : Type 0} where
  -- the versions that a function gives are those of a table
  abbrev pub Agrees : (ℕ → Option (Version K V H A S)) → List (Version K V H A S) → Type 0
  Agrees before t = (i : ℕ) → SameOption (before i) (slice_get t i)

  -- the value that a task gives is that which it has as an effect
  abbrev pub Matches : Task K V H A S → (ℕ → Option (Version K V H A S)) → List (Version K V H A S) → Effect K V H A S → Type 0
  Matches task before t (adds_version v) = SameOption (given_by before task) (Some v)
  Matches task before t (puts_version j v) = SameOption (given_by before task) (Some v) × ((i : ℕ) → is_change_of i task ≡ (j == i)) × (j < length t)
  Matches task before t finds_nothing = Unit {0}
  Matches task before t finds_no_key = Unit {0}

  pub matches : (task : Task K V H A S) (before : ℕ → Option (Version K V H A S)) (t : List (Version K V H A S)) → TaskRespects task → Agrees before t
      → Matches task before t (effect t task)
  matches (makes early late v) before t respects agrees = Same_refl v
  matches (changes j mode outcome_of) before t respects agrees = at mode (before j) (slice_get t j) refl refl (agrees j) where
    outcomes : (m : Mode) (u : Option (Version K V H A S)) (o : Outcome (Version K V H A S)) → u ≡ option_and_then (λ v. value_of (outcome_of v)) (before j)
        → SameOption u (value_of o) → (j < length t) → Matches (changes j m outcome_of) before t (effect_of_change j m o)
    outcomes New u (Becomes w) e s l = subst (λ u. SameOption u (Some w)) e s
    outcomes InPlace u (Becomes w) e s l = (subst (λ u. SameOption u (Some w)) e s, (λ i. refl), l)
    outcomes m u o e s l = tt

    at : (m : Mode) (u w : Option (Version K V H A S)) → before j ≡ u → slice_get t j ≡ w → SameOption u w
        → Matches (changes j m outcome_of) before t (effect_at j m outcome_of w)
    at m None None e g s = tt
    at m (Some v) (Some w) e g s =
        outcomes m (value_of (outcome_of v)) (outcome_of w) (rw e refl) (same_value (outcome_of v) (outcome_of w) (respects v w s)) (slice_get_within t j w g)
    at m v w e g s = absurd s

  -- what a function gives once a task got its reply
  abbrev pub set_by : Task K V H A S → Reply → (ℕ → Option (Version K V H A S)) → ℕ → Option (Version K V H A S)
  set_by task reply before i = cond (is_set_by i task reply) (given_by before task) (before i)

  -- after a step the own values are those of the table
  pub own_transition : (keys : Compared K) (hash : H → K → ℕ) (task : Task K V H A S) (reply : Reply) (before : ℕ → Option (Version K V H A S))
      (t t' : List (Version K V H A S)) → TaskRespects task → Agrees before t → Performs keys hash t task reply t' → Agrees (set_by task reply before) t'
  own_transition keys hash task reply before t t' respects agrees step =
      let given = given_by before task in
      after_task keys hash t t' (λ e y u. Matches task before t e → Agrees (set_by task y before) u) (λ e r m. agrees) (λ e m. agrees)
      (λ v w s order m i. rw (slice_get_append t w i) (same_cond (length t == i) given (Some w) (before i) (slice_get t i)
      (same_option_then given (Some v) (Some w) m s) (agrees i)))
      (λ j v w s order m i. rw (m.1 i, slice_get_set t w j i m.2) (same_cond (j == i) given (Some w) (before i) (slice_get t i)
      (same_option_then given (Some v) (Some w) m.0 s) (agrees i)))
      (refusal t task) (effect t task) reply step (matches task before t respects agrees)

pub history_append : {K V A : Type 0} (cs : List (Command K V A)) (ys : List Reply) (c : Command K V A) (y : Reply) → length cs ≡ length ys
    → history (cs ++ c ∷ []) (ys ++ y ∷ []) ≡ (c, y) ∷ history cs ys
history_append cs ys c y e = ap reverse (zip_append cs ys c y e) ∙ reverse-append (zip cs ys) ((c, y) ∷ [])

module _ {K V H A S : Type 0} (keys : Compared K) (hash : H → K → ℕ) where
  -- the commands so far, and those that are left
  pub run_goes_on : (t mid t' : Contents K V H A S) (cs : List (Command K V A)) (ys : List Reply) (ds : List (Command K V A)) (zs : List Reply)
      → length cs ≡ length ys → HoldsOwn keys t cs ys mid → mid.hasher ≡ t.hasher → Run keys hash mid ds zs t' → HoldsOwn keys t (cs ++ ds) (ys ++ zs) t'
  run_goes_on t mid t' cs ys [] [] e h f run = rw (append-nil cs, append-nil ys, run) h
  run_goes_on t mid t' cs ys (d ∷ ds) (z ∷ zs) e h f run =
      let own_now = own_transition keys hash (task_of keys mid.hasher d) z (own keys t (history cs ys)) mid.versions run.0.versions
      (task_respects keys S mid.hasher d) h run.1.1 in
      let now : HoldsOwn keys t (cs ++ d ∷ []) (ys ++ z ∷ []) run.0 = rw (history_append cs ys d z e, ← f) own_now in
      let all = run_goes_on t run.0 t' (cs ++ d ∷ []) (ys ++ z ∷ []) ds zs (omega (arith, e, length-append cs (d ∷ []), length-append ys (z ∷ []))) now
      (run.1.0 ∙ f) run.2 in
      rw (sym (append_assoc cs (d ∷ []) ds), sym (append_assoc ys (z ∷ []) zs)) all
  run_goes_on t mid t' cs ys ds zs e h f run = absurd run

  -- after a run, each version is what its own commands make
  pub run_holds_own : (t t' : Contents K V H A S) (commands : List (Command K V A)) (replies : List Reply) → Run keys hash t commands replies t'
      → HoldsOwn keys t commands replies t'
  run_holds_own t t' commands replies run = run_goes_on t t t' [] [] commands replies refl (λ i. same_option (slice_get t.versions i)) refl run
