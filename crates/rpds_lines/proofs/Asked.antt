-- What words ask for. A line writes one request at most, up to where its items lie.
use Rattle.std.proofs.Common.{◌≡◌, ◌∙◌, ℕ, nat_eq, Bool, List, [], ◌∷◌, ◌++◌, ◌+◌, length, map, decimal, codes, refl, sym, ap, arith, Vec, if◌then◌else◌}
use Rattle.std.specs.Cmp.Lexicographic.{pointwise}
use Rattle.std.specs.List.{flat_map}
use Rattle.std.specs.Map.{keys_of}
use Rattle.std.specs.Str.Parse.{digits_value}
use Rattle.std.specs.declared.ops.Bound.{Bound}
use Rattle.std.specs.declared.ops.Bound.TheVariants.{Included, Excluded, Unbounded}
use Rattle.std.proofs.lemmas.Fmt.{decimal_is_IsNumeral}
use Rattle.rpds_hash.specs.declared.identity_build.Identity.{Identity}
use Rattle.rpds_hash.specs.declared.identity_build.IdentityBuild.{IdentityBuild}
use Rattle.rpds_snapshots.specs.declared.snapshots.command.SnapCommand.TheVariants.{Put, TakeOut, Take, GoBack}
use Rattle.rpds_tree.specs.Sorted.{first_out_of_order}
use Rattle.rpds_table.specs.Kinds.{outcome_of_edit, map_of_pairs, set_of_members}
use Rattle.rpds_table.specs.Outcomes.{outcome_map, if_room}
use Rattle.rpds_table.specs.Transitions.{Task, makes, changes, task_of, refused_at}
use Rattle.rpds_table.specs.declared.table.command.Command.TheVariants.{Make, MakeBits, MakeDegree, MakeSorted, MakeSortedItems, Copy, Change, Extend}
use Rattle.rpds_table.specs.declared.table.command.Command.TheVariants.{WriteAt, WriteKey}
use Rattle.rpds_table.specs.declared.table.command.Command.{Command}
use Rattle.rpds_table.specs.declared.table.kind.Kind.{Kind}
use Rattle.rpds_table.specs.declared.table.mode.Mode.TheVariants.{New, InPlace}
use Rattle.rpds_table.specs.declared.table.mode.Mode.{Mode}
use Rattle.rpds_table.specs.declared.table.op.Op.{Op}
use Rattle.rpds_table.specs.declared.table.outcome.Outcome.TheVariants.{Unfit}
use Rattle.rpds_table.specs.declared.table.outcome.Outcome.{Outcome}
use Rattle.rpds_table.specs.declared.table.question.Question.{Question}
use Rattle.rpds_table.specs.declared.table.version.Version.{Version}
use Rattle.rpds_table.specs.declared.table.edit.Edit.TheVariants as edit
use Rattle.rpds_table.specs.declared.table.kind.Kind.TheVariants as kinds
use Rattle.rpds_table.specs.declared.table.op.Op.TheVariants as ops
use Rattle.rpds_table.specs.declared.table.question.Question.TheVariants as questions
use Rattle.rpds_table.specs.declared.table.version.Version.TheVariants as version
use Rattle.rpds_lines.specs.Grammar.{pieces_of_request}
use Rattle.rpds_lines.specs.Grammar.Commands.{pieces_of_command}
use Rattle.rpds_lines.specs.Grammar.Items.{pieces_of_number, pieces_of_pair}
use Rattle.rpds_lines.specs.Grammar.Kinds.{word_of_kind}
use Rattle.rpds_lines.specs.Grammar.Ops.{pieces_of_op}
use Rattle.rpds_lines.specs.Grammar.Pieces.{text_of, texts_of, number, byte, bound, Fits, AllFit}
use Rattle.rpds_lines.specs.Grammar.Questions.{pieces_of_question}
use Rattle.rpds_lines.specs.Grammar.Snaps.{pieces_of_snap}
use Rattle.rpds_lines.specs.Sessions.{numbers}
use Rattle.rpds_lines.specs.declared.parse.Request.{Request}
use Rattle.rpds_lines.specs.declared.parse.Request.TheVariants as requests
use Rattle.rpds_lines.specs.declared.parse.snap.SnapRequest.{SnapRequest}
use Rattle.rpds_lines.specs.declared.parse.snap.SnapRequest.TheVariants as snaps

-- WORDS AND NUMBERS

abbrev is : List ℕ → List ℕ → Bool
is word other = pointwise nat_eq word other

abbrev value : List ℕ → ℕ
value word = digits_value 10 word

value_back : (n : ℕ) → Fits (number n) → value (decimal n) ≡ n
value_back n fits = (decimal_is_IsNumeral n fits).1

byte_back : (n : ℕ) → Fits (byte n) → value (decimal n) ≡ n
byte_back n fits = value_back n (omega (arith, fits))

abbrev numbers_of : List (List ℕ) → List ℕ
numbers_of words = map value words

numbers_back : (xs : List ℕ) → AllFit (flat_map pieces_of_number xs) → numbers_of (texts_of (flat_map pieces_of_number xs)) ≡ xs
numbers_back [] fit = refl
numbers_back (x ∷ xs) fit = λ i. value_back x fit.0 i ∷ numbers_back xs fit.1 i

abbrev pairs_of : List (List ℕ) → List (ℕ × ℕ)
pairs_of (k ∷ v ∷ words) = (value k, value v) ∷ pairs_of words
pairs_of words = []

pairs_back : (ps : List (ℕ × ℕ)) → AllFit (flat_map pieces_of_pair ps) → pairs_of (texts_of (flat_map pieces_of_pair ps)) ≡ ps
pairs_back [] fit = refl
pairs_back (p ∷ ps) fit = λ i. (value_back p.0 fit.0 i, value_back p.1 fit.1.0 i) ∷ pairs_back ps fit.1.1 i

abbrev bound_of : List ℕ → Bound ℕ
bound_of [] = Unbounded
bound_of (mark ∷ digits) = if nat_eq mark 91 then Included (value digits) else if nat_eq mark 40 then Excluded (value digits) else Unbounded

bound_back : (b : Bound ℕ) → Fits (bound b) → bound_of (text_of (bound b)) ≡ b
bound_back (Included key) fits = ap Included (value_back key fits)
bound_back (Excluded key) fits = ap Excluded (value_back key fits)
bound_back Unbounded fits = refl

-- KINDS, OPS, QUESTIONS AND REQUESTS OF THE MAP WITH SNAPSHOTS

abbrev kind_of : List ℕ → Kind
kind_of word =
    if is word (codes "list") then kinds.List
    else if is word (codes "stack") then kinds.Stack
    else if is word (codes "queue") then kinds.Queue
    else if is word (codes "vector") then kinds.Vector
    else if is word (codes "hmap") then kinds.HashTrieMap
    else if is word (codes "hset") then kinds.HashTrieSet
    else if is word (codes "rmap") then kinds.RedBlackTreeMap
    else kinds.RedBlackTreeSet

kind_back : (kind : Kind) → kind_of (word_of_kind kind) ≡ kind
kind_back kinds.List = refl
kind_back _ = refl

abbrev op_of : List (List ℕ) → Op ℕ ℕ
op_of (name ∷ []) =
    if is name (codes "dropfirst") then ops.DropFirst
    else if is name (codes "reverse") then ops.Reverse
    else if is name (codes "pop") then ops.Pop
    else if is name (codes "dequeue") then ops.Dequeue
    else ops.DropLast
op_of (name ∷ x ∷ []) =
    if is name (codes "pushfront") then ops.PushFront (value x)
    else if is name (codes "push") then ops.Push (value x)
    else if is name (codes "enqueue") then ops.Enqueue (value x)
    else if is name (codes "pushback") then ops.PushBack (value x)
    else if is name (codes "remove") then ops.Remove (value x)
    else if is name (codes "insertitem") then ops.InsertItem (value x)
    else ops.RemoveItem (value x)
op_of (name ∷ x ∷ y ∷ words) = if is name (codes "set") then ops.Set (value x) (value y) else ops.Insert (value x) (value y)
op_of [] = ops.DropFirst

op_back : (op : Op ℕ ℕ) → AllFit (pieces_of_op op) → op_of (texts_of (pieces_of_op op)) ≡ op
op_back (ops.PushFront x) fit = ap ops.PushFront (value_back x fit.1.0)
op_back ops.DropFirst fit = refl
op_back ops.Reverse fit = refl
op_back (ops.Push x) fit = ap ops.Push (value_back x fit.1.0)
op_back ops.Pop fit = refl
op_back (ops.Enqueue x) fit = ap ops.Enqueue (value_back x fit.1.0)
op_back ops.Dequeue fit = refl
op_back (ops.PushBack x) fit = ap ops.PushBack (value_back x fit.1.0)
op_back ops.DropLast fit = refl
op_back (ops.Set p x) fit = λ i. ops.Set (value_back p fit.1.0 i) (value_back x fit.1.1.0 i)
op_back (ops.Insert k v) fit = λ i. ops.Insert (value_back k fit.1.0 i) (value_back v fit.1.1.0 i)
op_back (ops.Remove k) fit = ap ops.Remove (value_back k fit.1.0)
op_back (ops.InsertItem k) fit = ap ops.InsertItem (value_back k fit.1.0)
op_back (ops.RemoveItem k) fit = ap ops.RemoveItem (value_back k fit.1.0)

abbrev question_of : List (List ℕ) → Question ℕ
question_of (name ∷ i ∷ []) =
    if is name (codes "first") then questions.First (value i)
    else if is name (codes "last") then questions.Last (value i)
    else questions.Size (value i)
question_of (name ∷ i ∷ x ∷ []) =
    if is name (codes "at") then questions.At (value i) (value x)
    else if is name (codes "key") then questions.Key (value i) (value x)
    else if is name (codes "has") then questions.Contains (value i) (value x)
    else if is name (codes "equal") then questions.Equal (value i) (value x)
    else if is name (codes "compare") then questions.Compare (value i) (value x)
    else if is name (codes "disjoint") then questions.Disjoint (value i) (value x)
    else questions.Subset (value i) (value x)
question_of (name ∷ i ∷ start ∷ end ∷ words) = questions.Range (value i) (bound_of start) (bound_of end)
question_of words = questions.First 0

question_back : (q : Question ℕ) → AllFit (pieces_of_question q) → question_of (texts_of (pieces_of_question q)) ≡ q
question_back (questions.First i) fit = ap questions.First (value_back i fit.1.0)
question_back (questions.Last i) fit = ap questions.Last (value_back i fit.1.0)
question_back (questions.At i p) fit = λ j. questions.At (value_back i fit.1.0 j) (value_back p fit.1.1.0 j)
question_back (questions.Key i k) fit = λ j. questions.Key (value_back i fit.1.0 j) (value_back k fit.1.1.0 j)
question_back (questions.Size i) fit = ap questions.Size (value_back i fit.1.0)
question_back (questions.Contains i k) fit = λ j. questions.Contains (value_back i fit.1.0 j) (value_back k fit.1.1.0 j)
question_back (questions.Range i start end) fit = λ j. questions.Range (value_back i fit.1.0 j) (bound_back start fit.1.1.0 j) (bound_back end fit.1.1.1.0 j)
question_back (questions.Equal i k) fit = λ j. questions.Equal (value_back i fit.1.0 j) (value_back k fit.1.1.0 j)
question_back (questions.Compare i k) fit = λ j. questions.Compare (value_back i fit.1.0 j) (value_back k fit.1.1.0 j)
question_back (questions.Disjoint i k) fit = λ j. questions.Disjoint (value_back i fit.1.0 j) (value_back k fit.1.1.0 j)
question_back (questions.Subset i k) fit = λ j. questions.Subset (value_back i fit.1.0 j) (value_back k fit.1.1.0 j)

abbrev snap_of : List (List ℕ) → SnapRequest
snap_of (name ∷ []) = if is name (codes "take") then snaps.Command Take else snaps.Show
snap_of (name ∷ x ∷ []) =
    if is name (codes "out") then snaps.Command (TakeOut (value x))
    else if is name (codes "back") then snaps.Command (GoBack (value x))
    else if is name (codes "get") then snaps.Get (value x)
    else snaps.At (value x)
snap_of (name ∷ x ∷ y ∷ words) = snaps.Command (Put (value x) (value y))
snap_of [] = snaps.Show

snap_back : (r : SnapRequest) → AllFit (pieces_of_snap r) → snap_of (texts_of (pieces_of_snap r)) ≡ r
snap_back (snaps.Command (Put k v)) fit = λ i. snaps.Command (Put (value_back k fit.1.0 i) (value_back v fit.1.1.0 i))
snap_back (snaps.Command (TakeOut k)) fit = λ i. snaps.Command (TakeOut (value_back k fit.1.0 i))
snap_back (snaps.Command Take) fit = refl
snap_back (snaps.Command (GoBack n)) fit = λ i. snaps.Command (GoBack (value_back n fit.1.0 i))
snap_back (snaps.Get k) fit = ap snaps.Get (value_back k fit.1.0)
snap_back snaps.Show fit = refl
snap_back (snaps.At n) fit = ap snaps.At (value_back n fit.1.0)

-- REQUESTS

-- what a request asks for
pub data Asked (A : Type 0) : Type 0 where
  does : Task ℕ ℕ IdentityBuild A Identity → Asked A
  asks : Question ℕ → Asked A
  shows : ℕ → Asked A
  snapped : SnapRequest → Asked A
  nothing : Asked A

abbrev pub build : IdentityBuild
build = record {}

module _ {A : Type 0} where
  abbrev pub asked_by : Request A → Asked A
  asked_by (requests.Command command) = does (task_of numbers build command)
  asked_by (requests.Question question) = asks question
  asked_by (requests.Show i) = shows i
  asked_by (requests.Snap request) = snapped request

  abbrev does_command : Command ℕ ℕ A → Asked A
  does_command command = does (task_of numbers build command)

  -- what becomes of a version that is extended by these items
  abbrev extended : List ℕ → Version ℕ ℕ IdentityBuild A Identity → Outcome (Version ℕ ℕ IdentityBuild A Identity)
  extended xs (version.Vector v) = outcome_map version.Vector (if_room (length v.items + length xs) (record v { items = v.items ++ xs }))
  extended xs v = Unfit

  extended_is : (v : Version ℕ ℕ IdentityBuild A Identity) (items : Vec ℕ A) → extended items.items v ≡ outcome_of_edit numbers v (edit.Extend items)
  extended_is (version.List xs) items = refl
  extended_is _ items = refl

  abbrev sorted_map : List (ℕ × ℕ) → Asked A
  sorted_map ps = does (makes [] (refused_at (first_out_of_order numbers.cmp (keys_of ps)) ∷ []) (map_of_pairs ps))

  abbrev sorted_set : List ℕ → Asked A
  sorted_set xs = does (makes [] (refused_at (first_out_of_order numbers.cmp xs) ∷ []) (set_of_members xs))

  abbrev sorted : List (List ℕ) → Asked A
  sorted (kind ∷ words) = if is kind (codes "rmap") then sorted_map (pairs_of words) else sorted_set (numbers_of words)
  sorted [] = nothing

  abbrev change : Mode → List (List ℕ) → Asked A
  change mode (i ∷ words) = does_command (Change (value i) mode (op_of words))
  change mode [] = nothing

  abbrev extend : List (List ℕ) → Asked A
  extend (i ∷ words) = does (changes (value i) InPlace (extended (numbers_of words)))
  extend [] = nothing

  -- of a line of one, two or three words behind the first
  abbrev few : List ℕ → List (List ℕ) → Asked A
  few first (i ∷ []) =
      if is first (codes "make") then does_command (Make (kind_of i))
      else if is first (codes "bits") then does_command (MakeBits (value i))
      else if is first (codes "copy") then does_command (Copy (value i))
      else if is first (codes "show") then shows (value i)
      else asks (question_of (first ∷ i ∷ []))
  few first (i ∷ n ∷ []) = if is first (codes "degree") then does_command (MakeDegree (kind_of i) (value n)) else asks (question_of (first ∷ i ∷ n ∷ []))
  few first (i ∷ n ∷ x ∷ words) =
      if is first (codes "writeat") then does_command (WriteAt (value i) (value n) (value x))
      else if is first (codes "writekey") then does_command (WriteKey (value i) (value n) (value x))
      else asks (question_of (first ∷ i ∷ n ∷ x ∷ words))
  few first [] = nothing

  abbrev pub asked : List (List ℕ) → Asked A
  asked [] = nothing
  asked (first ∷ words) =
      if is first (codes "new") then change New words
      else if is first (codes "in") then change InPlace words
      else if is first (codes "extend") then extend words
      else if is first (codes "sorted") then sorted words
      else if is first (codes "snap") then snapped (snap_of words)
      else few first words

  asked_question : (q : Question ℕ) → asked (texts_of (pieces_of_question q)) ≡ asks (question_of (texts_of (pieces_of_question q)))
  asked_question (questions.First i) = refl
  asked_question _ = refl

  command_back : (command : Command ℕ ℕ A) → AllFit (pieces_of_command command) → asked (texts_of (pieces_of_command command)) ≡ does_command command
  command_back (Make kind) fit = ap (λ k. does_command (Make k)) (kind_back kind)
  command_back (MakeBits n) fit = ap (λ n. does_command (MakeBits n)) (byte_back n fit.1.0)
  command_back (MakeDegree kind n) fit = λ i. does_command (MakeDegree (kind_back kind i) (byte_back n fit.1.1.0 i))
  command_back (MakeSorted pairs) fit = ap sorted_map (pairs_back pairs.items fit.1.1)
  command_back (MakeSortedItems items) fit = ap sorted_set (numbers_back items.items fit.1.1)
  command_back (Copy i) fit = ap (λ n. does_command (Copy n)) (value_back i fit.1.0)
  command_back (Change i New op) fit = λ j. does_command (Change (value_back i fit.1.0 j) New (op_back op fit.1.1 j))
  command_back (Change i InPlace op) fit = λ j. does_command (Change (value_back i fit.1.0 j) InPlace (op_back op fit.1.1 j))
  command_back (Extend i items) fit = λ j. does (changes (value_back i fit.1.0 j) InPlace (λ v. outcome v j))
    where
      outcome : (v : Version ℕ ℕ IdentityBuild A Identity) → extended (numbers_of (texts_of (flat_map pieces_of_number items.items))) v
          ≡ outcome_of_edit numbers v (edit.Extend items)
      outcome v = ap (λ xs. extended xs v) (numbers_back items.items fit.1.1) ∙ extended_is v items
  command_back (WriteAt i p x) fit = λ j. does_command (WriteAt (value_back i fit.1.0 j) (value_back p fit.1.1.0 j) (value_back x fit.1.1.1.0 j))
  command_back (WriteKey i k x) fit = λ j. does_command (WriteKey (value_back i fit.1.0 j) (value_back k fit.1.1.0 j) (value_back x fit.1.1.1.0 j))

  request_back : (r : Request A) → AllFit (pieces_of_request r) → asked (texts_of (pieces_of_request r)) ≡ asked_by r
  request_back (requests.Command command) fit = command_back command fit
  request_back (requests.Question q) fit = asked_question q ∙ ap asks (question_back q fit)
  request_back (requests.Show i) fit = ap shows (value_back i fit.1.0)
  request_back (requests.Snap r) fit = ap snapped (snap_back r fit.1)

  -- Requests that are written alike ask for the same.
  pub asked_alike : (r s : Request A) → AllFit (pieces_of_request r) → AllFit (pieces_of_request s) → texts_of (pieces_of_request r)
      ≡ texts_of (pieces_of_request s)
      → asked_by r ≡ asked_by s
  asked_alike r s fit fits same = sym (request_back r fit) ∙ ap asked same ∙ request_back s fits
