-- A command leaves versions in order.
use Rattle.std.proofs.Common.{[], ◌∷◌, ◌≡◌, All, Option, Some, List, ℕ, slice_get, subst}
use Rattle.std.proofs.lemmas.List.Elements.{All-nil, All-cons, All-append, All-get_or, All-set}
use Rattle.std.proofs.lemmas.Option.{slice_get_within, get_or_from_slice_get}
use Rattle.rpds_table.specs.Compared.{Compared}
use Rattle.rpds_table.specs.Kinds.{IsInOrder, Same}
use Rattle.rpds_table.specs.TableContents.{Contents}
use Rattle.rpds_table.specs.Transitions.{Effect, adds_version, puts_version, Allows, Run, Transition, effect, refusal, task_of}
use Rattle.rpds_table.specs.Types.{Command, Refusal, Reply, Version}
use Rattle.rpds_table.proofs.Transitions.{after_task}

-- what holds of each version, and of each that is added or put, holds of each after a task
pub All_after_task : {K V H A S : Type 0} (keys : Compared K) (hash : H → K → ℕ) (t t' : List (Version K V H A S)) (P : Version K V H A S → Type 0)
    (Q : Effect K V H A S → Type 0)
    → ((v w : Version K V H A S) → Same v w → IsInOrder keys hash w → Q (adds_version v) → P w)
    → ((i : ℕ) (v w : Version K V H A S) → Same v w → IsInOrder keys hash w → Q (puts_version i v) → P w) → All P t
    → (due : Option Refusal) (e : Effect K V H A S) (reply : Reply) → Q e → Allows keys hash due e t reply t' → All P t'
All_after_task keys hash t t' P Q added put all due e reply given step =
    after_task keys hash t t' (λ e y u. Q e → All P u) (λ e r q. all) (λ e q. all)
    (λ v w same order q. All-append P t (w ∷ []) all (All-cons P w [] (added v w same order q) (All-nil P)))
    (λ i v w same order q. All-set P t i w (put i v w same order q) all) due e reply step given

-- what holds of each version holds of that at a place
pub All_slice_get : {X : Type 0} (P : X → Type 0) (xs : List X) (i : ℕ) (x : X) → All P xs → slice_get xs i ≡ Some x → P x
All_slice_get P xs i x all found = subst P (get_or_from_slice_get xs i x x found) (All-get_or P xs i x (slice_get_within xs i x found) all)

module _ {K V H A S : Type 0} (keys : Compared K) (hash : H → K → ℕ) where
  pub transition_keeps : (t t' : Contents K V H A S) (command : Command K V A) (reply : Reply) → All (IsInOrder keys hash) t.versions
      → Transition keys hash t command reply t' → All (IsInOrder keys hash) t'.versions
  transition_keeps t t' command reply all step =
      let task = task_of {A = A} {S = S} keys t.hasher command in
      All_after_task keys hash t.versions t'.versions (IsInOrder keys hash) (λ e. Unit {0}) (λ v w same order q. order) (λ i v w same order q. order) all
      (refusal t.versions task) (effect t.versions task) reply tt step.1

  pub run_keeps : (t t' : Contents K V H A S) (commands : List (Command K V A)) (replies : List Reply) → All (IsInOrder keys hash) t.versions
      → Run keys hash t commands replies t' → All (IsInOrder keys hash) t'.versions
  run_keeps t t' [] [] all run = rw run all
  run_keeps t t' (c ∷ cs) (y ∷ ys) all run = run_keeps run.0 t' cs ys (transition_keeps t run.0 c y all run.1) run.2
  run_keeps t t' cs ys all run = absurd run

  pub version_is_in_order : (t : Contents K V H A S) (i : ℕ) (v : Version K V H A S) → All (IsInOrder keys hash) t.versions
      → slice_get t.versions i ≡ Some v → IsInOrder keys hash v
  version_is_in_order t i v all found = All_slice_get (IsInOrder keys hash) t.versions i v all found
