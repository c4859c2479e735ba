-- Equal versions have equal outcomes and budgets.
use Rattle.std.proofs.Common.{◌≡◌, Bool, true, false, cond, Option, Some, None, refl, rules}
use Rattle.rpds_table.specs.Compared.{Compared}
use Rattle.rpds_table.specs.Kinds.Lists as lists
use Rattle.rpds_table.specs.Kinds.Stacks as stacks
use Rattle.rpds_table.specs.Kinds.Vectors as vectors
use Rattle.rpds_table.specs.Kinds.{Same, at, budget_of_edit, budget_of_op, outcome_of_op, outcome_of_edit}
use Rattle.rpds_table.specs.Outcomes.{SameOutcome, outcome_map}
use Rattle.rpds_table.specs.Behaviours.{Behaviour}
use Rattle.rpds_table.specs.Transitions.{Task, makes, changes, task_of}
use Rattle.rpds_table.specs.History.{value_of, SameOption}
use Rattle.rpds_table.proofs.HashedKinds.{hash_map_is_lawful, hash_set_is_lawful}
use Rattle.rpds_table.proofs.Lawful.{IsLawful, exact_is_lawful}
use Rattle.rpds_table.proofs.OrderedKinds.{ordered_map_is_lawful, ordered_set_is_lawful}
use Rattle.rpds_table.proofs.Queues.{queue_is_lawful}
use Rattle.rpds_table.specs.Types.{Command, Copy, Change, Extend, WriteAt, WriteKey, Edit, New, InPlace, Op, Outcome, Version}
use Rattle.rpds_table.specs.declared.table.edit.Edit.TheVariants as edit
use Rattle.rpds_table.specs.declared.table.outcome.Outcome.TheVariants.{Becomes}
use Rattle.rpds_table.specs.declared.table.version.Version.TheVariants as version

module _ (K V H A : Type 0) where
  list_is_lawful : IsLawful {K = K} {V = V} {H = H} {A = A} lists.behaviour
  list_is_lawful = exact_is_lawful lists.behaviour (λ xs. refl) (λ xs ys e. e)

  stack_is_lawful : IsLawful {K = K} {V = V} {H = H} {A = A} stacks.behaviour
  stack_is_lawful = exact_is_lawful stacks.behaviour (λ xs. refl) (λ xs ys e. e)

  vector_is_lawful : IsLawful {K = K} {V = V} {H = H} {A = A} vectors.behaviour
  vector_is_lawful = exact_is_lawful vectors.behaviour (λ v. refl) (λ v w e. e)

module _ {K V H A S : Type 0} where
  pub Same_refl : (v : Version K V H A S) → Same v v
  Same_refl (version.List xs) = (list_is_lawful K V H A).same xs
  Same_refl (version.Stack xs) = (stack_is_lawful K V H A).same xs
  Same_refl (version.Queue p) = (queue_is_lawful K V H A).same p
  Same_refl (version.Vector u) = (vector_is_lawful K V H A).same u
  Same_refl (version.HashTrieMap m) = (hash_map_is_lawful K V H A).same m
  Same_refl (version.HashTrieSet s) = (hash_set_is_lawful K V H A).same s
  Same_refl (version.RedBlackTreeMap m) = (ordered_map_is_lawful K V H A).same m
  Same_refl (version.RedBlackTreeSet s) = (ordered_set_is_lawful K V H A).same s

  pub Same_symm : (v w : Version K V H A S) → Same v w → Same w v
  Same_symm (version.List xs) (version.List ys) e = (list_is_lawful K V H A).symm xs ys e
  Same_symm (version.Stack xs) (version.Stack ys) e = (stack_is_lawful K V H A).symm xs ys e
  Same_symm (version.Queue p) (version.Queue q) e = (queue_is_lawful K V H A).symm p q e
  Same_symm (version.Vector u) (version.Vector v) e = (vector_is_lawful K V H A).symm u v e
  Same_symm (version.HashTrieMap m) (version.HashTrieMap n) e = (hash_map_is_lawful K V H A).symm m n e
  Same_symm (version.HashTrieSet s) (version.HashTrieSet t) e = (hash_set_is_lawful K V H A).symm s t e
  Same_symm (version.RedBlackTreeMap m) (version.RedBlackTreeMap n) e = (ordered_map_is_lawful K V H A).symm m n e
  Same_symm (version.RedBlackTreeSet s) (version.RedBlackTreeSet t) e = (ordered_set_is_lawful K V H A).symm s t e
  Same_symm v w e = absurd e

  pub Same_trans : (u v w : Version K V H A S) → Same u v → Same v w → Same u w
  Same_trans (version.List xs) (version.List ys) (version.List zs) d e = (list_is_lawful K V H A).trans xs ys zs d e
  Same_trans (version.Stack xs) (version.Stack ys) (version.Stack zs) d e = (stack_is_lawful K V H A).trans xs ys zs d e
  Same_trans (version.Queue p) (version.Queue q) (version.Queue r) d e = (queue_is_lawful K V H A).trans p q r d e
  Same_trans (version.Vector u) (version.Vector v) (version.Vector w) d e = (vector_is_lawful K V H A).trans u v w d e
  Same_trans (version.HashTrieMap m) (version.HashTrieMap n) (version.HashTrieMap o) d e = (hash_map_is_lawful K V H A).trans m n o d e
  Same_trans (version.HashTrieSet s) (version.HashTrieSet t) (version.HashTrieSet u) d e = (hash_set_is_lawful K V H A).trans s t u d e
  Same_trans (version.RedBlackTreeMap m) (version.RedBlackTreeMap n) (version.RedBlackTreeMap o) d e = (ordered_map_is_lawful K V H A).trans m n o d e
  Same_trans (version.RedBlackTreeSet s) (version.RedBlackTreeSet t) (version.RedBlackTreeSet u) d e = (ordered_set_is_lawful K V H A).trans s t u d e
  Same_trans u v w d e = search rules

  -- what is said alike of two containers that are the same, by their behaviour, is said alike of their versions
  alike : {X : Type 0} (Alike : X → X → Type 0) (f : (T : Type 0) → Behaviour K V H A T → T → (T → Version K V H A S) → X)
      → ((T : Type 0) (r : Behaviour K V H A T) (to : T → Version K V H A S) → IsLawful r → ((x y : T) → r.Same x y → Same (to x) (to y)) → (x y : T)
      → r.Same x y → Alike (f T r x to) (f T r y to))
      → (v w : Version K V H A S) → Same v w → Alike (at v f) (at w f)
  alike Alike f h (version.List xs) (version.List ys) e = h _ _ version.List (list_is_lawful K V H A) (λ x y e. e) xs ys e
  alike Alike f h (version.Stack xs) (version.Stack ys) e = h _ _ version.Stack (stack_is_lawful K V H A) (λ x y e. e) xs ys e
  alike Alike f h (version.Queue p) (version.Queue q) e = h _ _ version.Queue (queue_is_lawful K V H A) (λ x y e. e) p q e
  alike Alike f h (version.Vector u) (version.Vector v) e = h _ _ version.Vector (vector_is_lawful K V H A) (λ x y e. e) u v e
  alike Alike f h (version.HashTrieMap m) (version.HashTrieMap n) e = h _ _ version.HashTrieMap (hash_map_is_lawful K V H A) (λ x y e. e) m n e
  alike Alike f h (version.HashTrieSet s) (version.HashTrieSet t) e = h _ _ version.HashTrieSet (hash_set_is_lawful K V H A) (λ x y e. e) s t e
  alike Alike f h (version.RedBlackTreeMap m) (version.RedBlackTreeMap n) e = h _ _ version.RedBlackTreeMap (ordered_map_is_lawful K V H A) (λ x y e. e) m n e
  alike Alike f h (version.RedBlackTreeSet s) (version.RedBlackTreeSet t) e = h _ _ version.RedBlackTreeSet (ordered_set_is_lawful K V H A) (λ x y e. e) s t e
  alike Alike f h v w e = absurd e

  pub same_option : (v : Option (Version K V H A S)) → SameOption v v
  same_option None = tt
  same_option (Some v) = Same_refl v

  pub same_option_then : (u v w : Option (Version K V H A S)) → SameOption u v → SameOption v w → SameOption u w
  same_option_then None None w d e = e
  same_option_then (Some u) (Some v) (Some w) d e = Same_trans u v w d e
  same_option_then u v w d e = search rules

  pub same_cond : (b : Bool) (u v x y : Option (Version K V H A S)) → SameOption u v → SameOption x y → SameOption (cond b u x) (cond b v y)
  same_cond true u v x y d e = d
  same_cond false u v x y d e = e

  -- outcomes that are the same have the same value
  pub same_value : (o p : Outcome (Version K V H A S)) → SameOutcome Same o p → SameOption (value_of o) (value_of p)
  same_value (Becomes v) (Becomes w) e = e
  same_value o p e = search rules

  -- versions of the same value have the same outcomes
  abbrev pub Respects : (Version K V H A S → Outcome (Version K V H A S)) → Type 0
  Respects outcome_of = (v w : Version K V H A S) → Same v w → SameOutcome Same (outcome_of v) (outcome_of w)

  -- the outcomes of a kind, as those of versions
  lifted : {T : Type 0} (same : T → T → Type 0) (to : T → Version K V H A S) → ((x y : T) → same x y → Same (to x) (to y)) → (o p : Outcome T)
      → SameOutcome same o p → SameOutcome Same (outcome_map to o) (outcome_map to p)
  lifted same to keeps (Becomes x) (Becomes y) e = keeps x y e
  lifted same to keeps o p e = search rules

  -- versions of the same value may spend the same
  pub op_budgets_alike : (op : Op K V) (v w : Version K V H A S) → Same v w → budget_of_op v op ≡ budget_of_op w op
  op_budgets_alike op = alike (λ b c. b ≡ c) (λ T r x to. r.budget_of_op x op) (λ T r to law keeps. law.op_budget op)

  -- and in place
  pub budgets_alike : (edit : Edit K V A) (v w : Version K V H A S) → Same v w → budget_of_edit v edit ≡ budget_of_edit w edit
  budgets_alike edit = alike (λ b c. b ≡ c) (λ T r x to. r.budget_of_edit x edit) (λ T r to law keeps. law.edit_budget edit)

  abbrev pub TaskRespects : Task K V H A S → Type 0
  TaskRespects (makes early late v) = Unit {0}
  TaskRespects (changes i mode outcome_of) = Respects outcome_of

module _ {K V H A S : Type 0} (keys : Compared K) where
  edit_respects : (edit : Edit K V A) → Respects {H = H} {S = S} (λ v. outcome_of_edit keys v edit)
  edit_respects edit =
      alike (SameOutcome Same) (λ T r x to. outcome_map to (r.outcome_of_edit keys x edit))
      (λ T r to law keeps x y e. lifted r.Same to keeps _ _ (law.edit_respects keys edit x y e))

  op_respects : (op : Op K V) → Respects {H = H} {A = A} {S = S} (λ v. outcome_of_op keys v op)
  op_respects op =
      alike (SameOutcome Same) (λ T r x to. outcome_map to (r.outcome_of_op keys x op))
      (λ T r to law keeps x y e. lifted r.Same to keeps _ _ (law.op_respects keys op x y e))

module _ {K V H A : Type 0} (keys : Compared K) where
  pub task_respects : (S : Type 0) (hasher : H) (command : Command K V A) → TaskRespects {S = S} (task_of keys hasher command)
  task_respects S hasher (Copy i) = λ v w e. e
  task_respects S hasher (Change i New op) = op_respects keys op
  task_respects S hasher (Change i InPlace op) = edit_respects keys (edit.Change op)
  task_respects S hasher (Extend i items) = edit_respects keys (edit.Extend items)
  task_respects S hasher (WriteAt i p x) = edit_respects keys (edit.WriteAt p x)
  task_respects S hasher (WriteKey i k x) = edit_respects keys (edit.WriteKey k x)
  task_respects S hasher command = tt
