-- What is printed for a line, and what the line does to what the session keeps.
use Rattle.std.specs.Prelude.{◌≡◌, ℕ, nat_eq, List, [], ◌∷◌, ◌++◌, All, Option, None, Some, codes, slice_get}
use Rattle.std.specs.Io.KnownBytes.{Appends, Consumes}
use Rattle.std.specs.Ordering.{nat_cmp}
use Rattle.rpds_snapshots.specs.SnapshotContents.{Contents as SnapshotContents}
use Rattle.rpds_snapshots.specs.Snapshots.{Step}
use Rattle.rpds_snapshots.specs.declared.snapshots.reply.SnapReply.{SnapReply}
use Rattle.rpds_table.specs.Answers.{pair}
use Rattle.rpds_table.specs.Compared.{Compared, compared}
use Rattle.rpds_hash.specs.Identity.{number_hash}
use Rattle.rpds_table.specs.Questions.{answer}
use Rattle.rpds_table.specs.Transitions.{Transition}
use Rattle.rpds_hash.specs.declared.identity_build.IdentityBuild.{IdentityBuild}
use Rattle.rpds_table.specs.declared.table.reply.Reply.{Reply}
use Rattle.rpds_lines.specs.Grammar.{IsRequestOf}
use Rattle.rpds_lines.specs.Kept.{StandsFor}
use Rattle.rpds_lines.specs.Lines.{LacksLineFeed, ended, lines_of}
use Rattle.rpds_lines.specs.Printed.{text_of_reply, text_of_answer, text_of_snap_reply, IsShown, IsSnapShown}
use Rattle.rpds_lines.specs.SessionState.{SessionState, empty_state}
use Rattle.rpds_lines.specs.declared.parse.Request.{Request}
use Rattle.rpds_lines.specs.declared.parse.Request.TheVariants as requests
use Rattle.rpds_lines.specs.declared.parse.snap.SnapRequest.{SnapRequest}
use Rattle.rpds_lines.specs.declared.parse.snap.SnapRequest.TheVariants as snaps
use Rattle.rpds_tree.specs.Pairs.{find}

-- how numbers are compared
abbrev pub numbers : Compared ℕ
numbers = compared nat_eq nat_cmp

-- how a key is hashed: as itself, in eight bytes
abbrev pub hash_of : IdentityBuild → ℕ → ℕ
hash_of hasher key = number_hash key

-- From the map with snapshots s, the request may have this text printed and leave s'.
abbrev pub AnswersSnap : SnapshotContents ℕ ℕ → SnapRequest → List ℕ → SnapshotContents ℕ ℕ → Type 0
AnswersSnap s (snaps.Command command) text s' = (reply : SnapReply) × Step nat_cmp s command reply s' × (text ≡ text_of_snap_reply reply)
AnswersSnap s (snaps.Get key) text s' = (text ≡ text_of_answer (pair (find nat_cmp key s.current.entries))) × (s' ≡ s)
AnswersSnap s snaps.Show text s' = IsSnapShown (Some s.current) text × (s' ≡ s)
AnswersSnap s (snaps.At n) text s' = IsSnapShown (slice_get s.taken n) text × (s' ≡ s)

module _ {A : Type 0} where
  -- From the state s, the request may have this text printed and leave s'; None is a line outside the grammar.
  abbrev pub Answers : SessionState A → Option (Request A) → List ℕ → SessionState A → Type 0
  Answers s (Some (requests.Command command)) text s' =
      ((reply : Reply) × Transition numbers hash_of s.table command reply s'.table × (text ≡ text_of_reply reply)) × (s'.snapshots ≡ s.snapshots)
  Answers s (Some (requests.Question question)) text s' = (text ≡ text_of_answer (answer numbers numbers s.table question)) × (s' ≡ s)
  Answers s (Some (requests.Show i)) text s' = IsShown (slice_get s.table.versions i) text × (s' ≡ s)
  Answers s (Some (requests.Snap request)) text s' = AnswersSnap s.snapshots request text s'.snapshots × (s'.table ≡ s.table)
  Answers s None text s' = (text ≡ codes "bad line") × (s' ≡ s)

  -- From the state s, the line may have this text printed, and leave s'.
  abbrev pub AnswersLine : SessionState A → List ℕ → List ℕ → SessionState A → Type 0
  AnswersLine s line text s' = (request : Option (Request A)) × IsRequestOf line request × Answers s request text s'

  -- From the state s, the lines in order may have these texts printed, one for each, and leave s'.
  abbrev pub AnswersLines : SessionState A → List (List ℕ) → List (List ℕ) → SessionState A → Type 0
  AnswersLines s [] [] s' = s' ≡ s
  AnswersLines s (line ∷ lines) (text ∷ texts) s' = (between : SessionState A) × AnswersLine s line text between × AnswersLines between lines texts s'
  AnswersLines s [] (text ∷ texts) s' = ⊥
  AnswersLines s (line ∷ lines) [] s' = ⊥

  -- The bytes are whole lines, each answered by a line of its own after what the writer held, and a rest that is kept.
  pub record AnswersWhole (s : SessionState A) (before : Option (List ℕ)) (bytes : List ℕ) (s' : SessionState A) (after : Option (List ℕ)) (rest : List ℕ) : Type 0 where
    pub lines : List (List ℕ)
    pub texts : List (List ℕ)
    pub whole : bytes ≡ ended lines ++ rest
    pub each : All LacksLineFeed lines
    pub partial : LacksLineFeed rest
    pub answers : AnswersLines s lines texts s'
    pub written : Appends before after (ended texts)

  -- The same of the bytes behind a line that is begun, where what is kept stands for it; what is kept then stands for the rest.
  abbrev pub AnswersMore : SessionState A → List ℕ → Option (List ℕ) → List ℕ → SessionState A → List ℕ → Option (List ℕ) → Type 0
  AnswersMore s kept before bytes s' kept' after =
      (line : List ℕ) → StandsFor kept line → (rest : List ℕ) × StandsFor kept' rest × AnswersWhole s before (line ++ bytes) s' after rest

  -- From the state s, a line that is begun, where what is kept stands for it, and that these bytes end, may have this text printed, and leave s'.
  abbrev pub AnswersEnded : SessionState A → List ℕ → List ℕ → List ℕ → SessionState A → Type 0
  AnswersEnded s kept end text s' = (line : List ℕ) → StandsFor kept line → AnswersLine s (line ++ end) text s'

  -- The same of a last line that lacks its line feed, or of no line.
  abbrev pub AnswersLast : SessionState A → List ℕ → List (List ℕ) → SessionState A → Type 0
  AnswersLast s kept texts s' = (line : List ℕ) → StandsFor kept line → AnswersLines s (lines_of line) texts s'

-- From the empty state, each line of the bytes is answered by a line of its own, in order, after what the writer held.
abbrev pub AnswersInput : (A : Type 0) → List ℕ → Option (List ℕ) → Option (List ℕ) → Type 0
AnswersInput A bytes before after = (texts : List (List ℕ)) × (s : SessionState A) × AnswersLines empty_state (lines_of bytes) texts s × Appends before after (ended texts)

-- From the empty state, each whole line of what was read of the input is answered by a line of its own, in order, after what the writer held.
abbrev pub AnswersRead : (A : Type 0) → Option (List ℕ) → Option (List ℕ) → Option (List ℕ) → Option (List ℕ) → Type 0
AnswersRead A input left before after = (bytes : List ℕ) × Consumes input left bytes × (s : SessionState A) × (rest : List ℕ) × AnswersWhole empty_state before bytes s after rest
