-- Same lines, same output, unless memory is refused.
use Rattle.std.proofs.Common.{◌≡◌, ◌≢◌, ◌∙◌, ◌++◌, ◌==◌, if◌then◌else◌, ℕ, true, false, All, Option, None, Some, MatchOption, is_none, List, [], ◌∷◌, map}
use Rattle.std.proofs.Common.{length, slice_get, refl, sym, ap, subst, arith, rules}
use Rattle.std.specs.Cmp.{nat_eq_equiv}
use Rattle.std.specs.Option.{option_map}
use Rattle.std.specs.Ordering.{nat_cmp}
use Rattle.std.specs.Map.{keys_of}
use Rattle.std.proofs.lemmas.List.Elements.{All-head, All-nil, All-tail}
use Rattle.std.proofs.lemmas.List.{length-map, map-append}
use Rattle.std.proofs.lemmas.Option.{none-some, same_Some, slice_get-map}
use Rattle.rpds_core.specs.MapText.{map_text}
use Rattle.rpds_core.specs.SetText.{set_text}
use Rattle.rpds_hash.specs.Digits.{FollowDigits}
use Rattle.rpds_hash.specs.Identity.{number_hash}
use Rattle.rpds_hash.specs.declared.identity_build.Identity.{Identity}
use Rattle.rpds_hash.specs.declared.identity_build.IdentityBuild.{IdentityBuild}
use Rattle.rpds_snapshots.specs.SnapshotContents.{Contents as Snapshots}
use Rattle.rpds_snapshots.specs.Snapshots.{Does, IsRefusal, MayWantMemory, Step, greatest, refusal}
use Rattle.rpds_snapshots.specs.declared.snapshots.command.SnapCommand.{SnapCommand}
use Rattle.rpds_snapshots.specs.declared.snapshots.command.SnapCommand.TheVariants.{Put, TakeOut, Take, GoBack}
use Rattle.rpds_snapshots.specs.declared.snapshots.refusal.SnapRefusal.{SnapRefusal}
use Rattle.rpds_snapshots.specs.declared.snapshots.refusal.SnapRefusal.TheVariants as snap_refusals
use Rattle.rpds_snapshots.specs.declared.snapshots.reply.SnapReply.{SnapReply}
use Rattle.rpds_snapshots.specs.declared.snapshots.reply.SnapReply.TheVariants as snap_replies
use Rattle.rpds_tree.specs.OrderedMap.{OrderedMap}
use Rattle.rpds_tree.specs.Pairs.{find, put, without}
use Rattle.rpds_table.specs.Answers.{pair}
use Rattle.rpds_table.specs.History.{SameOption}
use Rattle.rpds_table.specs.Kinds.{IsInOrder, Same}
use Rattle.rpds_table.specs.Questions.{answer}
use Rattle.rpds_table.specs.SameTables.{SameTables}
use Rattle.rpds_table.specs.Texts.{text_of}
use Rattle.rpds_table.specs.Transitions.{Performs, Task, Transition, makes, task_of}
use Rattle.rpds_table.specs.declared.table.command.Command.{Command}
use Rattle.rpds_table.specs.declared.table.question.Question.{Question}
use Rattle.rpds_table.specs.declared.table.question.Question.TheVariants.{First}
use Rattle.rpds_table.specs.declared.table.version.Version.TheVariants as version
use Rattle.rpds_table.proofs.Answered.{answers_agree}
use Rattle.rpds_table.proofs.Determined.{replies_agree}
use Rattle.rpds_table.proofs.Ordered.{All_slice_get, transition_keeps}
use Rattle.rpds_lines.specs.Grammar.{IsRequestOf, pieces_of_request}
use Rattle.rpds_lines.specs.Grammar.Commands.{pieces_of_command}
use Rattle.rpds_lines.specs.Grammar.Pieces.{AllFit}
use Rattle.rpds_lines.specs.Printed.{HadMemory, IsShown, IsSnapShown, text_of_answer, text_of_number, text_of_reply, text_of_snap_reply}
use Rattle.rpds_lines.specs.SessionState.{SessionState, empty_state}
use Rattle.rpds_lines.specs.Sessions.{Answers, AnswersLine, AnswersLines, AnswersSnap, hash_of, numbers}
use Rattle.rpds_lines.specs.declared.parse.Request.{Request}
use Rattle.rpds_lines.specs.declared.parse.Request.TheVariants as requests
use Rattle.rpds_lines.specs.declared.parse.snap.SnapRequest.{SnapRequest}
use Rattle.rpds_lines.specs.declared.parse.snap.SnapRequest.TheVariants as snaps
use Rattle.rpds_lines.proofs.Asked.{Asked, build, does, asks, shows, snapped, nothing, asked_alike, asked_by}
use Rattle.rpds_lines.proofs.KeysFit.{KeysFit, NumberVersion, keys_fit_after}
use Rattle.rpds_lines.proofs.OneOrder.{one_order, one_order_of_numbers}

-- TABLES

module _ {A : Type 0} where
  abbrev shown : NumberVersion A → Option (List ℕ)
  shown v = text_of text_of_number text_of_number v

  -- Versions of numbers that are the same are displayed alike, hashed ones too: they have one order.
  shown_alike : (v w : NumberVersion A) → Same v w → IsInOrder numbers hash_of v → IsInOrder numbers hash_of w → KeysFit v → KeysFit w → shown v ≡ shown w
  shown_alike (version.List xs) (version.List ys) e c d fit fits = ap (λ l. shown (version.List l)) e
  shown_alike (version.Stack xs) (version.Stack ys) e c d fit fits = ap (λ l. shown (version.Stack l)) e
  shown_alike (version.Queue p) (version.Queue q) e c d fit fits = ap (λ l. shown (version.Queue (record { items = l; waiting = 0 }))) e
  shown_alike (version.Vector v) (version.Vector w) e c d fit fits = ap (λ l. shown (version.Vector l)) e
  shown_alike (version.HashTrieMap m) (version.HashTrieMap n) e c d fit fits =
      ap (map_text text_of_number text_of_number)
      (one_order (λ p. p.0) m.degree c.degree m.entries n.entries e.0 fit fits c.distinct d.distinct c.in_order
      (subst (λ degree. FollowDigits degree (map number_hash (keys_of n.entries))) (sym e.1) d.in_order))
  shown_alike (version.HashTrieSet s) (version.HashTrieSet t) e c d fit fits =
      ap (set_text text_of_number)
      (one_order_of_numbers s.degree c.degree s.members t.members e.0 fit fits c.distinct d.distinct c.in_order
      (subst (λ degree. FollowDigits degree (map number_hash t.members)) (sym e.1) d.in_order))
  shown_alike (version.RedBlackTreeMap m) (version.RedBlackTreeMap n) e c d fit fits = ap (map_text text_of_number text_of_number) e
  shown_alike (version.RedBlackTreeSet s) (version.RedBlackTreeSet t) e c d fit fits = ap (set_text text_of_number) e
  shown_alike v w e c d fit fits = absurd e

  -- the same under one number
  shows_agree : (v w : Option (NumberVersion A)) → SameOption v w → ((x : NumberVersion A) → v ≡ Some x → IsInOrder numbers hash_of x × KeysFit x)
      → ((x : NumberVersion A) → w ≡ Some x → IsInOrder numbers hash_of x × KeysFit x) → (x y : List ℕ) → IsShown v x → IsShown w y → x ≡ y
  shows_agree None None same here there x y a b = a ∙ sym b
  shows_agree (Some v) (Some w) same here there x y a b =
      let h = here v refl in
      let t = there w refl in
      same_Some x y (sym a ∙ shown_alike v w same h.0 t.0 h.1 t.1 ∙ b)
  shows_agree v w same here there x y a b = absurd same

-- SNAPSHOTS

abbrev full_at : ℕ → Option SnapRefusal
full_at n = if n == greatest then Some snap_refusals.Full else None

abbrev entries_of : OrderedMap ℕ ℕ → List (ℕ × ℕ)
entries_of m = m.entries

-- Two maps with their snapshots have the same pairs, now and at each snapshot. How deep their trees are may differ.
record SameSnapshots (s t : Snapshots ℕ ℕ) : Type 0 where
  current : s.current.entries ≡ t.current.entries
  taken : map entries_of s.taken ≡ map entries_of t.taken

-- what a removal of key k, at which this was found, replies and leaves
abbrev TakesOut : Snapshots ℕ ℕ → ℕ → Option (ℕ × ℕ) → SnapReply → Snapshots ℕ ℕ → Type 0
TakesOut s k found reply s' = MatchOption found ((reply ≡ snap_replies.Done false) × (s' ≡ s)) (λ pair. (reply ≡ snap_replies.Done true)
    × (s'.current.entries ≡ without nat_cmp k s.current.entries) × (s'.taken ≡ s.taken))

module _ (s t : Snapshots ℕ ℕ) (same : SameSnapshots s t) where
  same_count : length s.taken ≡ length t.taken
  same_count = sym (length-map s.taken entries_of) ∙ ap length same.taken ∙ length-map t.taken entries_of

  same_at : (n : ℕ) → option_map entries_of (slice_get s.taken n) ≡ option_map entries_of (slice_get t.taken n)
  same_at n = sym (slice_get-map entries_of s.taken n) ∙ ap (λ l. slice_get l n) same.taken ∙ slice_get-map entries_of t.taken n

  snap_shown : (v w : Option (OrderedMap ℕ ℕ)) → option_map entries_of v ≡ option_map entries_of w → (x y : List ℕ) → IsSnapShown v x → IsSnapShown w y → x ≡ y
  snap_shown None None e x y a b = a ∙ sym b
  snap_shown (Some v) (Some w) e x y a b = same_Some x y (sym a ∙ ap (map_text text_of_number text_of_number) (same_Some v.entries w.entries e) ∙ b)
  snap_shown v w e x y a b = absurd (cc)

  same_none : (v w : Option (OrderedMap ℕ ℕ)) → option_map entries_of v ≡ option_map entries_of w → is_none v ≡ is_none w
  same_none None None e = refl
  same_none (Some v) (Some w) e = refl
  same_none v w e = absurd (cc)

  same_refusal : (command : SnapCommand ℕ ℕ) → refusal nat_cmp s command ≡ refusal nat_cmp t command
  same_refusal (Put k v) = ap (λ es. full_at (length es)) same.current
  same_refusal (TakeOut k) = refl
  same_refusal Take = ap full_at same_count
  same_refusal (GoBack n) = ap (λ b. if b then Some snap_refusals.NoSnapshot else None) (same_none (slice_get s.taken n) (slice_get t.taken n) (same_at n))

  module _ (s' t' : Snapshots ℕ ℕ) (x y : SnapReply) where
    abbrev Agree : Type 0
    Agree = (x ≡ y) × SameSnapshots s' t'

    taken_stays : s'.taken ≡ s.taken → t'.taken ≡ t.taken → map entries_of s'.taken ≡ map entries_of t'.taken
    taken_stays a b = ap (map entries_of) a ∙ same.taken ∙ sym (ap (map entries_of) b)

    taken_out : (k : ℕ) (o p : Option (ℕ × ℕ)) → o ≡ p → TakesOut s k o x s' → TakesOut t k p y t' → Agree
    taken_out k None None e a b = (a.0 ∙ sym b.0, rw (a.1, b.1) same)
    taken_out k (Some f) (Some g) e a b =
        (a.0 ∙ sym b.0, record { current = a.1 ∙ ap (without nat_cmp k) same.current ∙ sym b.1; taken = taken_stays a.2 b.2 })
    taken_out k o p e a b = absurd (cc)

    does_agree : (command : SnapCommand ℕ ℕ) → Does nat_cmp s command x s' → Does nat_cmp t command y t' → Agree
    does_agree (Put k v) a b =
        (a.0 ∙ sym b.0, record { current = a.1 ∙ ap (put nat_cmp (k, v)) same.current ∙ sym b.1; taken = taken_stays a.2 b.2 })
    does_agree (TakeOut k) a b = taken_out k (find nat_cmp k s.current.entries) (find nat_cmp k t.current.entries) (ap (find nat_cmp k) same.current) a b
    does_agree Take a b = (
      a.0 ∙ ap snap_replies.Taken same_count ∙ sym b.0,
      record {
        current = ap entries_of a.1 ∙ same.current ∙ sym (ap entries_of b.1);
        taken =
            ap (map entries_of) a.2 ∙ map-append entries_of s.taken (s.current ∷ []) ∙ (λ i. same.taken i ++ same.current i ∷ [])
            ∙ sym (map-append entries_of t.taken (t.current ∷ [])) ∙ sym (ap (map entries_of) b.2);
      },
    )
    does_agree (GoBack n) a b = (
      a.0 ∙ sym b.0,
      record {
        current = same_Some s'.current.entries t'.current.entries (sym (ap (option_map entries_of) a.1) ∙ same_at n ∙ ap (option_map entries_of) b.1);
        taken = taken_stays a.2 b.2;
      },
    )

  -- where nothing refuses a command but want of memory, and that didn't
  wanted : (command : SnapCommand ℕ ℕ) (u : Snapshots ℕ ℕ) (r : SnapRefusal) → refusal nat_cmp u command ≡ None → IsRefusal nat_cmp u command r
      → r ≡ snap_refusals.NoMemory
  wanted command u r none is = at (refusal nat_cmp u command) none is where
    at : (o : Option SnapRefusal) → o ≡ None → MatchOption o ((r ≡ snap_refusals.NoMemory) × MayWantMemory nat_cmp u command) (λ first. r ≡ first)
        → r ≡ snap_refusals.NoMemory
    at None e is = is.0
    at (Some first) e is = absurd (none-some first (sym e))

  both_refused : (command : SnapCommand ℕ ℕ) (r q : SnapRefusal) → r ≢ snap_refusals.NoMemory → IsRefusal nat_cmp s command r
      → IsRefusal nat_cmp t command q → r ≡ q
  both_refused command r q some a b = at (refusal nat_cmp s command) (refusal nat_cmp t command) (same_refusal command) a b where
    at : (o p : Option SnapRefusal) → o ≡ p → MatchOption o ((r ≡ snap_refusals.NoMemory) × MayWantMemory nat_cmp s command) (λ first. r ≡ first)
        → MatchOption p ((q ≡ snap_refusals.NoMemory) × MayWantMemory nat_cmp t command) (λ first. q ≡ first) → r ≡ q
    at None p e a b = absurd (some a.0)
    at (Some f) (Some g) e a b = a ∙ same_Some f g e ∙ sym b
    at (Some f) None e a b = absurd (none-some f (sym e))

  step_agrees : (command : SnapCommand ℕ ℕ) (s' t' : Snapshots ℕ ℕ) (x y : SnapReply) → x ≢ snap_replies.Refused snap_refusals.NoMemory
      → y ≢ snap_replies.Refused snap_refusals.NoMemory
      → Step nat_cmp s command x s' → Step nat_cmp t command y t' → (x ≡ y) × SameSnapshots s' t'
  step_agrees command s' t' (snap_replies.Refused r) (snap_replies.Refused q) some too a b =
      (ap snap_replies.Refused (both_refused command r q (λ is. some (ap snap_replies.Refused is)) a.0 b.0), rw (a.1, b.1) same)
  step_agrees command s' t' (snap_replies.Refused r) y some too a b = absurd (some (ap snap_replies.Refused
      (wanted command s r (same_refusal command ∙ b.0) a.0)))
  step_agrees command s' t' x (snap_replies.Refused q) some too a b = absurd (too (ap snap_replies.Refused
      (wanted command t q (sym (same_refusal command) ∙ a.0) b.0)))
  step_agrees command s' t' x y some too a b = does_agree s' t' x y command a.1 b.1

  snap_agrees : (request : SnapRequest) (s' t' : Snapshots ℕ ℕ) (x y : List ℕ) → HadMemory x → HadMemory y → AnswersSnap s request x s'
      → AnswersSnap t request y t'
      → (x ≡ y) × SameSnapshots s' t'
  snap_agrees (snaps.Command command) s' t' x y some too a b =
      let step = step_agrees command s' t' a.0 b.0 (λ is. some (a.2 ∙ ap text_of_snap_reply is)) (λ is. too (b.2 ∙ ap text_of_snap_reply is)) a.1 b.1 in
      (a.2 ∙ ap text_of_snap_reply step.0 ∙ sym b.2, step.1)
  snap_agrees (snaps.Get key) s' t' x y some too a b = (a.0 ∙ ap (λ es. text_of_answer (pair (find nat_cmp key es))) same.current ∙ sym b.0, rw (a.1, b.1) same)
  snap_agrees snaps.Show s' t' x y some too a b = (snap_shown (Some s.current) (Some t.current) (ap Some same.current) x y a.0 b.0, rw (a.1, b.1) same)
  snap_agrees (snaps.At n) s' t' x y some too a b = (snap_shown (slice_get s.taken n) (slice_get t.taken n) (same_at n) x y a.0 b.0, rw (a.1, b.1) same)

-- SESSIONS

module _ {A : Type 0} where
  -- Two states have the same versions and the same snapshots. The versions are in their order, and their keys fit.
  record Alike (s t : SessionState A) : Type 0 where
    tables : SameTables s.table t.table
    order : All (IsInOrder numbers hash_of) s.table.versions
    order_too : All (IsInOrder numbers hash_of) t.table.versions
    fit : All KeysFit s.table.versions
    fit_too : All KeysFit t.table.versions
    snapshots : SameSnapshots s.snapshots t.snapshots

  abbrev task_in : Asked A → Task ℕ ℕ IdentityBuild A Identity
  task_in (does task) = task
  task_in other = makes [] [] (version.List [])

  abbrev question_in : Asked A → Question ℕ
  question_in (asks question) = question
  question_in other = First 0

  abbrev index_in : Asked A → ℕ
  index_in (shows i) = i
  index_in other = 0

  abbrev snap_in : Asked A → SnapRequest
  snap_in (snapped request) = request
  snap_in other = snaps.Show

  abbrev tag : Asked A → ℕ
  tag (does task) = 0
  tag (asks question) = 1
  tag (shows i) = 2
  tag (snapped request) = 3
  tag nothing = 4

  module _ (s t s' t' : SessionState A) (alike : Alike s t) (x y : List ℕ) (some : HadMemory x) (too : HadMemory y) where
    abbrev SameAnswer : Type 0
    SameAnswer = (x ≡ y) × Alike s' t'

    stay : x ≡ y → s' ≡ s → t' ≡ t → SameAnswer
    stay same a b = (same, rw (a, b) alike)

    in_place : (versions : List (NumberVersion A)) → All (IsInOrder numbers hash_of) versions → All KeysFit versions → (i : ℕ) (v : NumberVersion A)
        → slice_get versions i ≡ Some v → IsInOrder numbers hash_of v × KeysFit v
    in_place versions order fit i v found = (All_slice_get (IsInOrder numbers hash_of) versions i v order found, All_slice_get KeysFit versions i v fit found)

    commands_agree : (c d : Command ℕ ℕ A) → AllFit (pieces_of_command c) → AllFit (pieces_of_command d)
        → asked_by (requests.Command c) ≡ asked_by (requests.Command d)
        → Answers s (Some (requests.Command c)) x s' → Answers t (Some (requests.Command d)) y t' → SameAnswer
    commands_agree c d fit fits same a b =
        let task : task_of numbers build d ≡ task_of {S = Identity} numbers build c = sym (ap task_in same) in
        let step : Transition numbers hash_of t.table c b.0.0 t'.table = (
          b.0.1.0,
          subst (λ task. Performs numbers hash_of t.table.versions task b.0.0
              t'.table.versions) task b.0.1.1,
        ) in
        let replies = replies_agree numbers hash_of s.table t.table s'.table t'.table c a.0.0 b.0.0 alike.tables a.0.1 step
        (λ is. some (a.0.2 ∙ ap text_of_reply is)) (λ is. too (b.0.2 ∙ ap text_of_reply is)) in (
          a.0.2 ∙ ap text_of_reply replies.0 ∙ sym b.0.2,
          record {
            tables = replies.1;
            order = transition_keeps numbers hash_of s.table s'.table c a.0.0 alike.order a.0.1;
            order_too = transition_keeps numbers hash_of t.table t'.table c b.0.0 alike.order_too step;
            fit = keys_fit_after s.table s'.table c a.0.0 fit alike.fit a.0.1;
            fit_too = keys_fit_after t.table t'.table c b.0.0 fit alike.fit_too step;
            snapshots = rw (a.1, b.1) alike.snapshots;
          },
        )

    requests_agree : (r q : Request A) → AllFit (pieces_of_request r) → AllFit (pieces_of_request q) → asked_by r ≡ asked_by q
        → Answers s (Some r) x s' → Answers t (Some q) y t' → SameAnswer
    requests_agree (requests.Command c) (requests.Command d) fit fits same a b = commands_agree c d fit fits same a b
    requests_agree (requests.Question c) (requests.Question d) fit fits same a b =
        let answered = answers_agree numbers numbers nat_eq_equiv nat_eq_equiv hash_of s.table t.table alike.order alike.order_too alike.tables c in
        stay (a.0 ∙ ap text_of_answer answered ∙ ap (λ q. text_of_answer (answer numbers numbers t.table q)) (ap question_in same) ∙ sym b.0) a.1 b.1
    requests_agree (requests.Show i) (requests.Show j) fit fits same a b =
        let there : IsShown (slice_get t.table.versions i) y = subst (λ n. IsShown (slice_get t.table.versions n) y) (sym (ap index_in same)) b.0 in
        let here = in_place s.table.versions alike.order alike.fit i in
        let here_too = in_place t.table.versions alike.order_too alike.fit_too i in
        stay (shows_agree (slice_get s.table.versions i) (slice_get t.table.versions i) (alike.tables.versions i) here here_too x y a.0 there) a.1 b.1
    requests_agree (requests.Snap c) (requests.Snap d) fit fits same a b =
        let there : AnswersSnap t.snapshots c y t'.snapshots = subst (λ request. AnswersSnap t.snapshots request y t'.snapshots) (sym (ap snap_in same)) b.0 in
        let step = snap_agrees s.snapshots t.snapshots alike.snapshots c s'.snapshots t'.snapshots x y some too a.0 there in (
          step.0,
          record {
            tables = rw (a.1, b.1) alike.tables;
            order = rw a.1 alike.order;
            order_too = rw b.1 alike.order_too;
            fit = rw a.1 alike.fit;
            fit_too = rw b.1 alike.fit_too;
            snapshots = step.1;
          },
        )
    requests_agree r q fit fits same a b = absurd (omega (arith, ap tag same))

    line_agrees : (line : List ℕ) → AnswersLine s line x s' → AnswersLine t line y t' → SameAnswer
    line_agrees line a b = at a.0 b.0 a.1 b.1 a.2 b.2 where
      at : (r q : Option (Request A)) → IsRequestOf line r → IsRequestOf line q → Answers s r x s' → Answers t q y t' → SameAnswer
      at None None is is' a b = stay (a.0 ∙ sym b.0) a.1 b.1
      at (Some r) (Some q) is is' a b = requests_agree r q is.0 is'.0 (asked_alike r q is.0 is'.0 (sym is.1 ∙ is'.1)) a b
      at None (Some q) is is' a b = absurd (is q is'.0 is'.1)
      at (Some r) None is is' a b = absurd (is' r is.0 is.1)

  lines_agree : (lines xs ys : List (List ℕ)) (s t s' t' : SessionState A) → Alike s t → AnswersLines s lines xs s' → AnswersLines t lines ys t'
      → All HadMemory xs → All HadMemory ys → xs ≡ ys
  lines_agree [] [] [] s t s' t' alike a b some too = refl
  lines_agree (line ∷ lines) (x ∷ xs) (y ∷ ys) s t s' t' alike a b some too =
      let one = line_agrees s t a.0 b.0 alike x y (All-head HadMemory x xs some) (All-head HadMemory y ys too) line a.1 b.1 in
      let rest = lines_agree lines xs ys a.0 b.0 s' t' one.1 a.2 b.2 (All-tail HadMemory x xs some) (All-tail HadMemory y ys too) in
      λ i. one.0 i ∷ rest i
  lines_agree lines xs ys s t s' t' alike a b some too = search rules

  alike_at_first : Alike empty_state empty_state
  alike_at_first = record {
    tables = record { hasher = refl; versions = λ i. tt };
    order = All-nil _;
    order_too = All-nil _;
    fit = All-nil _;
    fit_too = All-nil _;
    snapshots = record { current = refl; taken = refl };
  }

  pub sessions_agree : (lines xs ys : List (List ℕ)) (s t : SessionState A) → AnswersLines empty_state lines xs s → AnswersLines empty_state lines ys t
      → All HadMemory xs → All HadMemory ys → xs ≡ ys
  sessions_agree lines xs ys s t = lines_agree lines xs ys empty_state empty_state s t alike_at_first
