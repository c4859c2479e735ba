-- What versions make of an op, an edit and a question, by the behaviour of their kinds.
use Rattle.std.specs.Prelude.{◌≡◌, ℕ, Bool, true, false, List, []}
use Rattle.rpds_core.specs.declared.steps.Steps.{Steps}
use Rattle.rpds_table.specs.Answers.{AnswerValue, refused}
use Rattle.rpds_table.specs.Budgets.{Budget}
use Rattle.rpds_table.specs.Compared.{Compared}
use Rattle.rpds_table.specs.Outcomes.{outcome_map}
use Rattle.rpds_table.specs.Behaviours.{Changes, Behaviour}
use Rattle.rpds_table.specs.Types.{Edit, Kind, Op, Outcome, Question, WrongKind, Version}
use Rattle.rpds_table.specs.declared.table.kind.Kind.TheVariants as kind
use Rattle.rpds_table.specs.declared.table.version.Version.TheVariants as version
use Rattle.rpds_table.specs.declared.table.version.VersionRef.{VersionRef}
use Rattle.rpds_table.specs.declared.table.version.VersionRef.TheVariants as refs
pub mod HashTrieMaps
pub mod HashTrieSets
pub mod Lists
pub mod Queues
pub mod RedBlackTreeMaps
pub mod RedBlackTreeSets
pub mod Stacks
pub mod Vectors

-- whether a kind has a degree
abbrev pub is_hashed : Kind → Bool
is_hashed kind.HashTrieMap = true
is_hashed kind.HashTrieSet = true
is_hashed kind = false

-- THE TABLE OF KINDS

module _ {K V H A S : Type 0} where
  -- what is said of a version, by the behaviour of its kind, the container's value, and how that is a version
  abbrev pub at {ℓ} : {X : Type ℓ} → Version K V H A S → ((T : Type 0) → Behaviour K V H A T → T → (T → Version K V H A S) → X) → X
  at (version.List xs) f = f _ Lists.behaviour xs version.List
  at (version.Stack xs) f = f _ Stacks.behaviour xs version.Stack
  at (version.Queue q) f = f _ Queues.behaviour q version.Queue
  at (version.Vector v) f = f _ Vectors.behaviour v version.Vector
  at (version.HashTrieMap m) f = f _ HashTrieMaps.behaviour m version.HashTrieMap
  at (version.HashTrieSet s) f = f _ HashTrieSets.behaviour s version.HashTrieSet
  at (version.RedBlackTreeMap m) f = f _ RedBlackTreeMaps.behaviour m version.RedBlackTreeMap
  at (version.RedBlackTreeSet s) f = f _ RedBlackTreeSets.behaviour s version.RedBlackTreeSet

  -- what is said of two versions of one kind; and of two that differ in kind
  abbrev pub at_two {ℓ} : {X : Type ℓ} → Version K V H A S → Version K V H A S → ((T : Type 0) → Behaviour K V H A T → T → T → X) → X → X
  at_two (version.List xs) (version.List ys) f differ = f _ Lists.behaviour xs ys
  at_two (version.Stack xs) (version.Stack ys) f differ = f _ Stacks.behaviour xs ys
  at_two (version.Queue p) (version.Queue q) f differ = f _ Queues.behaviour p q
  at_two (version.Vector v) (version.Vector w) f differ = f _ Vectors.behaviour v w
  at_two (version.HashTrieMap m) (version.HashTrieMap n) f differ = f _ HashTrieMaps.behaviour m n
  at_two (version.HashTrieSet s) (version.HashTrieSet t) f differ = f _ HashTrieSets.behaviour s t
  at_two (version.RedBlackTreeMap m) (version.RedBlackTreeMap n) f differ = f _ RedBlackTreeMaps.behaviour m n
  at_two (version.RedBlackTreeSet s) (version.RedBlackTreeSet t) f differ = f _ RedBlackTreeSets.behaviour s t
  at_two v w f differ = differ

  -- VERSIONS

  -- Two versions are of one kind and have the same value. The bits of a vector are part of its value, and so are the degree
  -- and the hasher of a hashed container. How many items of a queue wait, how deep a tree is, and the order in which a hashed
  -- container is walked are not.
  abbrev pub Same : Version K V H A S → Version K V H A S → Type 0
  Same v w = at_two v w (λ T r x y. r.Same x y) ⊥

  -- the empty vector whose digits have these bits
  abbrev pub empty_vector : ℕ → Version K V H A S
  empty_vector bits = version.Vector (record { items = []; bits = bits })

  -- the empty container of a kind, of this degree where it is hashed
  abbrev pub empty_of_degree : H → ℕ → Kind → Version K V H A S
  empty_of_degree hasher degree kind.List = version.List []
  empty_of_degree hasher degree kind.Stack = version.Stack []
  empty_of_degree hasher degree kind.Queue = version.Queue (record { items = []; waiting = 0 })
  empty_of_degree hasher degree kind.Vector = empty_vector 5
  empty_of_degree hasher degree kind.HashTrieMap = version.HashTrieMap (record { entries = []; degree = degree; hasher = hasher })
  empty_of_degree hasher degree kind.HashTrieSet = version.HashTrieSet (record { members = []; degree = degree; hasher = hasher })
  empty_of_degree hasher degree kind.RedBlackTreeMap = version.RedBlackTreeMap (record { entries = []; depth = 0 })
  empty_of_degree hasher degree kind.RedBlackTreeSet = version.RedBlackTreeSet (record { members = []; depth = 0 })

  -- the empty container of a kind
  abbrev pub empty : H → Kind → Version K V H A S
  empty hasher kind = empty_of_degree hasher 64 kind

  -- The ordered map of these pairs, and the ordered set of these members, which ascend. How deep their trees are doesn't
  -- tell versions apart.
  abbrev pub map_of_pairs : List (K × V) → Version K V H A S
  map_of_pairs pairs = version.RedBlackTreeMap (record { entries = pairs; depth = 0 })

  abbrev pub set_of_members : List K → Version K V H A S
  set_of_members members = version.RedBlackTreeSet (record { members = members; depth = 0 })

  -- the version that a reference shows
  abbrev pub version_of_ref : VersionRef K V H A S → Version K V H A S
  version_of_ref (refs.List list) = version.List list.now
  version_of_ref (refs.Stack stack) = version.Stack stack.now
  version_of_ref (refs.Queue queue) = version.Queue queue.now
  version_of_ref (refs.Vector vector) = version.Vector vector.now
  version_of_ref (refs.HashTrieMap map) = version.HashTrieMap map.now
  version_of_ref (refs.HashTrieSet set) = version.HashTrieSet set.now
  version_of_ref (refs.RedBlackTreeMap map) = version.RedBlackTreeMap map.now
  version_of_ref (refs.RedBlackTreeSet set) = version.RedBlackTreeSet set.now

  -- the work of an op, whose outcome is a version of its own: only those of ordered containers are counted
  abbrev pub budget_of_op : Version K V H A S → Op K V → Budget
  budget_of_op v op = at v (λ T r x to. r.budget_of_op x op)

  -- the work of an edit in place
  abbrev pub budget_of_edit : Version K V H A S → Edit K V A → Budget
  budget_of_edit v edit = at v (λ T r x to. r.budget_of_edit x edit)

module _ {K V H A S : Type 0} (keys : Compared K) where
  -- the outcome of an op, as a version of its own
  abbrev pub outcome_of_op : Version K V H A S → Op K V → Outcome (Version K V H A S)
  outcome_of_op v op = at v (λ T r x to. outcome_map to (r.outcome_of_op keys x op))

  -- the outcome of an edit in place
  abbrev pub outcome_of_edit : Version K V H A S → Edit K V A → Outcome (Version K V H A S)
  outcome_of_edit v edit = at v (λ T r x to. outcome_map to (r.outcome_of_edit keys x edit))

  -- what becomes of the containers of a kind
  abbrev pub changes_of : {T : Type 0} → Behaviour K V H A T → (T → Version K V H A S) → Changes (Op K V) (Edit K V A) (Version K V H A S) T
  changes_of r to = record {
    SameAs = λ x v. Same (to x) v;
    Same = r.Same;
    outcome_of_op = r.outcome_of_op keys;
    outcome_of_edit = r.outcome_of_edit keys;
    budget_of_op = r.budget_of_op;
    budget_of_edit = r.budget_of_edit;
  }

  -- the answer to a question about one version
  abbrev pub answer_of : Version K V H A S → Question K → AnswerValue K V
  answer_of v question = at v (λ T r x to. r.answer keys x question)

  -- the answer to a question about two versions
  abbrev pub answer_of_two : Compared V → Version K V H A S → Version K V H A S → Question K → AnswerValue K V
  answer_of_two values v w question = at_two v w (λ T r x y. r.answer_of_two keys values x y question) (refused WrongKind)

  -- The version is in the order of its kind. The keys of an ordered one ascend, and its tree is shallow. Those of a hashed one
  -- are pairwise unequal, in the order of the digits of their hashes.
  abbrev pub IsInOrder : (H → K → ℕ) → Version K V H A S → Type 0
  IsInOrder hash v = at v (λ T r x to. r.IsInOrder keys hash x)

  -- the work of an answer about one version, by the hash of each key under a hasher
  abbrev pub IsCostOfAnswer : (H → K → ℕ) → Version K V H A S → Question K → Steps → Steps → Type 0
  IsCostOfAnswer hash v question = at v (λ T r x to. r.IsCostOfAnswer keys hash x question)
