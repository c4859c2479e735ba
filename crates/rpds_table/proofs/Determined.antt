-- Same versions, same replies, unless memory was refused.
use Rattle.std.proofs.Common.{◌≡◌, ◌≢◌, ◌==◌, ◌||◌, ◌<◌, ℕ, suc, All, Option, Some, None, List, [], ◌∷◌, ◌++◌, length, slice_get, slice_set, refl, sym, ap}
use Rattle.std.proofs.Common.{subst, ◌∙◌, rules}
use Rattle.std.proofs.lemmas.List.Elements.{All-head, All-tail}
use Rattle.std.proofs.lemmas.Option.{slice_get_within}
use Rattle.rpds_table.specs.Compared.{Compared}
use Rattle.rpds_table.specs.History.{SameOption}
use Rattle.rpds_table.specs.Kinds.{Same}
use Rattle.rpds_table.specs.Outcomes.{SameOutcome, greatest, is_full, is_unfit}
use Rattle.rpds_table.specs.SameTables.{SameTables}
use Rattle.rpds_table.specs.TableContents.{Contents}
use Rattle.rpds_table.specs.Transitions.{Allows, Effect, adds_version, puts_version, finds_nothing, finds_no_key, Performs, Run, Task, makes, changes}
use Rattle.rpds_table.specs.Transitions.{Transition, effect_of_change, first_of_these, is_full_table, refusal, refused_if, task_of}
use Rattle.rpds_table.specs.Types.{Command, Mode, New, InPlace, Outcome, Unfit, Nothing, Absent, Becomes, Refusal, NoMemory, NoVersion, WrongKind, Full}
use Rattle.rpds_table.specs.Types.{Reply, Made, Done, Refused, Version}
use Rattle.rpds_table.specs.declared.table.outcome.Outcome.TheVariants as outcome
use Rattle.rpds_table.proofs.ChangeLaws.{StepsAt}
use Rattle.rpds_table.proofs.Lists.{slice_get_append, slice_get_set}
use Rattle.rpds_table.proofs.Respects.{Same_refl, Same_symm, Same_trans, same_cond, TaskRespects, task_respects}

module _ {K V H A S : Type 0} where
  -- the same versions stand under the same numbers
  abbrev pub SameVersions : List (Version K V H A S) → List (Version K V H A S) → Type 0
  SameVersions t u = (i : ℕ) → SameOption (slice_get t i) (slice_get u i)

  same_length : (t u : List (Version K V H A S)) → SameVersions t u → length t ≡ length u
  same_length [] [] same = refl
  same_length (v ∷ t) (w ∷ u) same = ap suc (same_length t u (λ i. same (suc i)))
  same_length t u same = absurd (same 0)

  -- two effects on a table t put or add the same version, or find nothing
  abbrev SameEffect : List (Version K V H A S) → Effect K V H A S → Effect K V H A S → Type 0
  SameEffect t (adds_version v) (adds_version w) = Same v w
  SameEffect t (puts_version i v) (puts_version j w) = (i ≡ j) × (i < length t) × Same v w
  SameEffect t finds_nothing finds_nothing = Unit {0}
  SameEffect t finds_no_key finds_no_key = Unit {0}
  SameEffect t e f = ⊥

  -- versions that are the same as two that are the same
  same_ends : (v w x y : Version K V H A S) → Same v w → Same v x → Same w y → Same x y
  same_ends v w x y s p q = Same_trans x v y (Same_symm v x p) (Same_trans v w y s q)

module _ {K V H A S : Type 0} (keys : Compared K) (hash : H → K → ℕ) (t u t' u' : List (Version K V H A S)) (same : SameVersions t u) (x y : Reply)
    (some : x ≢ Refused NoMemory) (too : y ≢ Refused NoMemory) where
  abbrev Agree : Type 0
  Agree = (x ≡ y) × SameVersions t' u'

  stay : x ≡ y → t' ≡ t → u' ≡ u → Agree
  stay reply d e = (reply, λ i. rw (d, e) (same i))

  added : (v w : Version K V H A S) → Same v w → t' ≡ t ++ v ∷ [] → u' ≡ u ++ w ∷ [] → SameVersions t' u'
  added v w s d e i =
      rw (d, e, slice_get_append t v i, slice_get_append u w i, ← same_length t u same)
      (same_cond (length t == i) (Some v) (Some w) (slice_get t i) (slice_get u i) s (same i))

  put : (j : ℕ) (v w : Version K V H A S) → j < length t → Same v w → t' ≡ slice_set t j v → u' ≡ slice_set u j w → SameVersions t' u'
  put j v w within s d e i =
      let there : j < length u = subst (λ n. j < n) (same_length t u same) within in
      rw (d, e, slice_get_set t v j i within, slice_get_set u w j i there)
      (same_cond (j == i) (Some v) (Some w) (slice_get t i) (slice_get u i) s (same i))

  -- with the same refusal and the same effect
  both : (r : Option Refusal) (e f : Effect K V H A S) (a b : Reply) → x ≡ a → y ≡ b → SameEffect t e f → Allows keys hash r e t a t'
      → Allows keys hash r f u b u' → Agree
  both (Some r) e f a b p q s c d = stay (p ∙ c.0 ∙ sym d.0 ∙ sym q) c.1 d.1
  both None (adds_version v) (adds_version w) (Made m) (Made n) p q s c d =
      (p ∙ ap Made (c.0 ∙ same_length t u same ∙ sym d.0) ∙ sym q, added c.1.0 d.1.0 (same_ends v w c.1.0 d.1.0 s c.1.1 d.1.1) c.1.3 d.1.3)
  both None (adds_version v) (adds_version w) (Refused r) b p q s c d = absurd (some (p ∙ ap Refused c.0))
  both None (adds_version v) (adds_version w) (Made m) (Refused r) p q s c d = absurd (too (q ∙ ap Refused d.0))
  both None (puts_version i v) (puts_version j w) (Done f) (Done g) p q s c d = (
    p ∙ ap Done (c.0 ∙ sym d.0) ∙ sym q,
    put i c.1.0 d.1.0 s.1 (same_ends v w c.1.0 d.1.0 s.2 c.1.1 d.1.1) c.1.3 (d.1.3 ∙ ap (λ n. slice_set u n d.1.0) (sym s.0)),
  )
  both None (puts_version i v) (puts_version j w) (Refused r) b p q s c d = absurd (some (p ∙ ap Refused c.0))
  both None (puts_version i v) (puts_version j w) (Done f) (Refused r) p q s c d = absurd (too (q ∙ ap Refused d.0))
  both None finds_nothing finds_nothing (Done f) (Done g) p q s c d = stay (p ∙ ap Done (c.0 ∙ sym d.0) ∙ sym q) c.1 d.1
  both None finds_no_key finds_no_key (Done f) (Done g) p q s c d = stay (p ∙ ap Done (c.0 ∙ sym d.0) ∙ sym q) c.1 d.1
  both None finds_no_key finds_no_key (Done f) (Refused r) p q s c d = absurd (too (q ∙ ap Refused d.0))
  both None finds_no_key finds_no_key (Refused r) b p q s c d = absurd (some (p ∙ ap Refused c.0))
  both None e f a b p q s c d = search rules

  -- what a change of version i may do that has this outcome
  abbrev Allowed : ℕ → Mode → Outcome (Version K V H A S) → List (Version K V H A S) → Reply → List (Version K V H A S) → Type 0
  Allowed i m o t reply t' =
      Allows keys hash (first_of_these (refused_if (is_unfit o) WrongKind ∷ refused_if (is_full o || is_full_table t (effect_of_change i m o)) Full ∷ []))
      (effect_of_change i m o) t reply t'

  outcomes : (i : ℕ) (m : Mode) (o p : Outcome (Version K V H A S)) → i < length t → SameOutcome Same o p → Allowed i m o t x t' → Allowed i m p u y u'
      → Agree
  outcomes i New (Becomes v) (Becomes w) l s c d =
      both (first_of_these (refused_if (length t == greatest) Full ∷ [])) (adds_version v) (adds_version w) x y refl refl s c
      (subst (λ n. Allows keys hash (first_of_these (refused_if (n == greatest) Full ∷ [])) (adds_version w) u y u') (sym (same_length t u same)) d)
  outcomes i InPlace (Becomes v) (Becomes w) l s c d = both None (puts_version i v) (puts_version i w) x y refl refl (refl, l, s) c d
  outcomes i m Unfit Unfit l s c d = both (Some WrongKind) finds_nothing finds_nothing x y refl refl tt c d
  outcomes i m outcome.Full outcome.Full l s c d = both (Some Full) finds_nothing finds_nothing x y refl refl tt c d
  outcomes i m Nothing Nothing l s c d = both None finds_nothing finds_nothing x y refl refl tt c d
  outcomes i m Absent Absent l s c d = both None finds_no_key finds_no_key x y refl refl tt c d
  outcomes i m o p l s c d = search rules

  versions : (i : ℕ) (m : Mode) (outcome_of : Version K V H A S → Outcome (Version K V H A S)) → TaskRespects (changes i m outcome_of)
      → (v w : Option (Version K V H A S)) → slice_get t i ≡ v → SameOption v w
      → StepsAt keys hash i m outcome_of v t x t' → StepsAt keys hash i m outcome_of w u y u' → Agree
  versions i m outcome_of respects None None is s c d = both (Some NoVersion) finds_nothing finds_nothing x y refl refl tt c d
  versions i m outcome_of respects (Some v) (Some w) is s c d =
      outcomes i m (outcome_of v) (outcome_of w) (slice_get_within t i v is) (respects v w s) c d
  versions i m outcome_of respects v w is s c d = absurd s

  tasks : (task : Task K V H A S) → TaskRespects task → Performs keys hash t task x t' → Performs keys hash u task y u' → Agree
  tasks (makes early late v) respects c d =
      both (refusal t (makes early late v)) (adds_version v) (adds_version v) x y refl refl (Same_refl v) c
      (subst (λ n. Allows keys hash (first_of_these (early ++ refused_if (n == greatest) Full ∷ late)) (adds_version v) u y u') (sym (same_length t u same)) d)
  tasks (changes i m outcome_of) respects c d = versions i m outcome_of respects (slice_get t i) (slice_get u i) refl (same i) c d

module _ {K V H A S : Type 0} (keys : Compared K) (hash : H → K → ℕ) where
  pub replies_agree : (t u t' u' : Contents K V H A S) (command : Command K V A) (x y : Reply) → SameTables t u → Transition keys hash t command x t'
      → Transition keys hash u command y u'
      → x ≢ Refused NoMemory → y ≢ Refused NoMemory → (x ≡ y) × SameTables t' u'
  replies_agree t u t' u' command x y same c d some too =
      let task = subst (λ h. Performs keys hash u.versions (task_of keys h command) y u'.versions) same.hasher d.1 in
      let agree = tasks keys hash t.versions u.versions t'.versions u'.versions same.versions x y some too (task_of keys t.hasher command)
      (task_respects keys S t.hasher command) c.1 task in
      (agree.0, record { hasher = d.0 ∙ same.hasher ∙ sym c.0; versions = agree.1 })

  pub runs_agree : (commands : List (Command K V A)) (xs ys : List Reply) (t u t' u' : Contents K V H A S) → SameTables t u → Run keys hash t commands xs t'
      → Run keys hash u commands ys u'
      → All (λ x. x ≢ Refused NoMemory) xs → All (λ y. y ≢ Refused NoMemory) ys → (xs ≡ ys) × SameTables t' u'
  runs_agree [] [] [] t u t' u' same c d some too = (refl, rw (c, d) same)
  runs_agree (command ∷ commands) (x ∷ xs) (y ∷ ys) t u t' u' same c d some too =
      let given : Reply → Type 0 = λ x. x ≢ Refused NoMemory in
      let one = replies_agree t u c.0 d.0 command x y same c.1 d.1 (All-head given x xs some) (All-head given y ys too) in
      let rest = runs_agree commands xs ys c.0 d.0 t' u' one.1 c.2 d.2 (All-tail given x xs some) (All-tail given y ys too) in
      ((λ i. one.0 i ∷ rest.0 i), rest.1)
  runs_agree commands xs ys t u t' u' same c d some too = search rules
