-- Small runs that show what the definitions mean; nothing cites them.
use Rattle.std.proofs.Common.{[], ◌∷◌, ◌≡◌, inl, inr, Option, Some, None, List, length, ℕ, refl, arith, true, false, nat_eq}
use Rattle.std.proofs.lemmas.List.Sorted.{IsPermutation-refl}
use Rattle.std.specs.List.{IsDistinct}
use Rattle.std.specs.Ordering.{nat_cmp}
use Rattle.std.specs.Prelude.{Vec}
use Rattle.std.specs.declared.cmp.Ordering.TheVariants.{Greater}
use Rattle.std.specs.declared.ops.Bound.TheVariants.{Included, Excluded, Unbounded}
use Rattle.rpds_tree.specs.Logarithm.{floor_log2}
use Rattle.rpds_tree.specs.Sorted.{first_out_of_order}
use Rattle.rpds_vector.specs.Width.{width}
use Rattle.rpds_table.specs.Answers as answers
use Rattle.rpds_table.specs.Budgets.{budget}
use Rattle.rpds_table.specs.Compared.{Compared, compared}
use Rattle.rpds_table.specs.History.{own, history}
use Rattle.rpds_table.specs.Kinds.{IsInOrder, budget_of_edit, budget_of_op}
use Rattle.rpds_table.specs.Kinds.Vectors.{visits}
use Rattle.rpds_table.specs.Outcomes.{greatest}
use Rattle.rpds_table.specs.Questions.{answer}
use Rattle.rpds_table.specs.Spent.{spent}
use Rattle.rpds_table.specs.TableContents.{Contents}
use Rattle.rpds_table.specs.Transitions.{Transition, Run, refusal, task_of}
use Rattle.rpds_table.specs.Types.{Command, Question, Make, MakeBits, MakeDegree, MakeSorted, MakeSortedItems, Copy, Change, Extend, WriteAt, WriteKey, New}
use Rattle.rpds_table.specs.Types.{InPlace, Refusal, NoVersion, WrongKind, BadBits, BadDegree, BadRange, Full, NoMemory, NotAscending, Reply, Made, Done}
use Rattle.rpds_table.specs.Types.{Refused, Version}
use Rattle.rpds_table.specs.declared.table.edit.Edit.TheVariants as edit
use Rattle.rpds_table.specs.declared.table.kind.Kind.TheVariants as kind
use Rattle.rpds_table.specs.declared.table.op.Op.TheVariants.{PushFront, DropFirst, Push, Enqueue, Dequeue, Set, Insert, Remove, InsertItem, RemoveItem}
use Rattle.rpds_table.specs.declared.table.question.Question.TheVariants.{First, Last, At, Contains, Size, Range, Compare, Disjoint, Subset}
use Rattle.rpds_table.specs.declared.table.version.Version.TheVariants as version

-- versions over numbers, with a number in the place of a hasher
abbrev Numbers : Type 0
Numbers = Version ℕ ℕ ℕ ℕ ℕ

abbrev numbers : Compared ℕ
numbers = compared nat_eq nat_cmp

-- a number is its own hash
abbrev hash : ℕ → ℕ → ℕ
hash hasher n = n

abbrev table : List Numbers → Contents ℕ ℕ ℕ ℕ ℕ
table versions = record { hasher = 0; versions = versions }

abbrev list : List ℕ → Numbers
list xs = version.List xs

abbrev queue : List ℕ → ℕ → Numbers
queue xs waiting = version.Queue (record { items = xs; waiting = waiting })

abbrev vector : List ℕ → ℕ → Numbers
vector xs bits = version.Vector (record { items = xs; bits = bits })

abbrev ordered : List (ℕ × ℕ) → Numbers
ordered es = version.RedBlackTreeMap (record { entries = es; depth = 0 })

-- LISTS

abbrev on_lists : List (Command ℕ ℕ ℕ)
on_lists = Make kind.List ∷ Change 0 New (PushFront 1) ∷ Change 1 InPlace (PushFront 2) ∷ Change 1 New DropFirst ∷ Change 5 New DropFirst
    ∷ Change 0 InPlace (Push 1) ∷ Change 0 New DropFirst ∷ []

abbrev replies : List Reply
replies = Made 0 ∷ Made 1 ∷ Done true ∷ Made 2 ∷ Refused NoVersion ∷ Refused WrongKind ∷ Done false ∷ []

abbrev lists : Contents ℕ ℕ ℕ ℕ ℕ
lists = table (list [] ∷ list (2 ∷ 1 ∷ []) ∷ list (1 ∷ []) ∷ [])

-- three versions are made, one is changed in place, and three commands change nothing
pub run_on_lists : Run numbers hash (table []) on_lists replies lists
run_on_lists = (
  table (list [] ∷ []),
  (refl, (refl, (list [], refl, tt, refl))),
  (
    table (list [] ∷ list (1 ∷ []) ∷ []),
    (refl, (refl, (list (1 ∷ []), refl, tt, refl))),
    (
      table (list [] ∷ list (2 ∷ 1 ∷ []) ∷ []),
      (refl, (refl, (list (2 ∷ 1 ∷ []), refl, tt, refl))),
      (
        lists,
        (refl, (refl, (list (1 ∷ []), refl, tt, refl))),
        (lists, (refl, (refl, refl)), (lists, (refl, (refl, refl)), (lists, (refl, (refl, refl)), refl))),
      ),
    ),
  ),
)

-- what the own commands of a version make
abbrev own_list : ℕ → Option Numbers
own_list = own numbers (table []) (history on_lists replies)

pub own_lists : (own_list 0 ≡ Some (list [])) × (own_list 1 ≡ Some (list (2 ∷ 1 ∷ []))) × (own_list 2 ≡ Some (list (1 ∷ []))) × (own_list 3 ≡ None)
own_lists = (refl, refl, refl, refl)

-- REFUSALS AND MEMORY

-- the refusal of a command, want of memory aside
abbrev refuses : List Numbers → Command ℕ ℕ ℕ → Option Refusal
refuses t command = refusal t (task_of numbers 0 command)

-- a version that isn't there, a degree for a kind that has none, one that isn't a power of 2 from 2 to 64, and bits above 63
pub refusals_reported : (refuses [] (Change 0 New DropFirst) ≡ Some NoVersion) × (refuses [] (MakeDegree kind.RedBlackTreeMap 1) ≡ Some WrongKind)
    × (refuses [] (MakeDegree kind.HashTrieMap 3) ≡ Some BadDegree) × (refuses [] (MakeBits 64) ≡ Some BadBits)
refusals_reported = (refl, refl, refl, refl)

-- what is refused for memory changes nothing
abbrev wants_memory : Numbers → Command ℕ ℕ ℕ → Type 0
wants_memory v command = Transition numbers hash (table (v ∷ [])) command (Refused NoMemory) (table (v ∷ []))

-- a drop from a list with items may want memory, and so may the removal in place of an absent key
pub may_want_memory : wants_memory (list (1 ∷ [])) (Change 0 New DropFirst) × wants_memory (ordered ((1, 10) ∷ [])) (Change 0 InPlace (Remove 9))
may_want_memory = ((refl, (refl, refl)), (refl, (refl, refl)))

-- no memory is wanted where a list or a map is empty, or a position is out of range
pub wants_none : (wants_memory (list []) (Change 0 InPlace DropFirst) → ⊥) × (wants_memory (vector (4 ∷ 5 ∷ []) 63) (Change 0 New (Set 2 6)) → ⊥)
    × (wants_memory (ordered []) (Change 0 InPlace (Remove 9)) → ⊥)
wants_none = ((λ step. step.1), (λ step. step.1), (λ step. step.1))

-- QUEUES

-- a queue takes at its back and gives from its front, and how many items wait doesn't matter
pub enqueued : Transition numbers hash (table (queue (1 ∷ []) 0 ∷ [])) (Change 0 InPlace (Enqueue 2)) (Done true) (table (queue (1 ∷ 2 ∷ []) 1 ∷ []))
enqueued = (refl, (refl, (queue (1 ∷ 2 ∷ []) 1, refl, tt, refl)))

pub dequeued : Transition numbers hash (table (queue (1 ∷ 2 ∷ []) 2 ∷ [])) (Change 0 New Dequeue) (Made 1)
    (table (queue (1 ∷ 2 ∷ []) 2 ∷ queue (2 ∷ []) 0 ∷ []))
dequeued = (refl, (refl, (queue (2 ∷ []) 0, refl, tt, refl)))

-- VECTORS

-- the empty vector has the bits that were asked for
pub greatest_bits : Transition numbers hash (table []) (MakeBits 63) (Made 0) (table (vector [] 63 ∷ []))
greatest_bits = (refl, (refl, (vector [] 63, refl, tt, refl)))

-- a write in range
pub written : Transition numbers hash (table (vector (4 ∷ 5 ∷ []) 63 ∷ [])) (WriteAt 0 1 6) (Done true) (table (vector (4 ∷ 6 ∷ []) 63 ∷ []))
written = (refl, (refl, (vector (4 ∷ 6 ∷ []) 63, refl, tt, refl)))

-- MAPS

abbrev on_maps : List (Command ℕ ℕ ℕ)
on_maps = Make kind.RedBlackTreeMap ∷ Change 0 New (Insert 2 20) ∷ Change 1 New (Insert 1 10) ∷ Change 2 New (Remove 1) ∷ WriteKey 3 2 99
    ∷ Change 0 InPlace (Remove 5) ∷ []

abbrev replies_on_maps : List Reply
replies_on_maps = Made 0 ∷ Made 1 ∷ Made 2 ∷ Made 3 ∷ Done true ∷ Done false ∷ []

-- what the own commands of a map make
abbrev own_map : ℕ → Option Numbers
own_map = own numbers (table []) (history on_maps replies_on_maps)

pub own_maps : (own_map 0 ≡ Some (ordered [])) × (own_map 2 ≡ Some (ordered ((1, 10) ∷ (2, 20) ∷ []))) × (own_map 3 ≡ Some (ordered ((2, 99) ∷ [])))
    × (own_map 4 ≡ None)
own_maps = (refl, refl, refl, refl)

-- The five changes find no pair, one, two, one and none. Where there are pairs, each compares two keys at most, and the two that
-- insert or remove compare one at least.
pub spent_on_maps : spent numbers (table []) (history on_maps replies_on_maps) ≡ budget 2 6 14
unfolding floor_log2
spent_on_maps = refl

-- a removal in place of an absent key replies that nothing was done
pub not_done : Transition numbers hash (table (ordered ((1, 10) ∷ []) ∷ [])) (Change 0 InPlace (Remove 9)) (Done true) (table (ordered ((1, 10) ∷ []) ∷ []))
    → true ≡ false
not_done step = step.1.0

-- a removal makes four nodes a level, into a new version and in place
pub removals : (budget_of_op (ordered ((1, 10) ∷ [])) (Remove 1) ≡ budget 1 2 8) × (budget_of_edit {A = ℕ} (ordered ((1, 10) ∷ []))
    (edit.Change (Remove 1)) ≡ budget 1 2 8)
unfolding floor_log2
removals = (refl, refl)

-- HASHED KINDS

abbrev hashed : List (ℕ × ℕ) → Numbers
hashed es = version.HashTrieMap (record { entries = es; degree = 16; hasher = 0 })

abbrev hashed_set : List ℕ → Numbers
hashed_set ms = version.HashTrieSet (record { members = ms; degree = 64; hasher = 0 })

-- In base 16, the lowest digit first, 22 has the digits 6, 1 and 38 has 6, 2: so 22 comes first.
follows : IsInOrder numbers hash (hashed ((22, 2) ∷ (38, 1) ∷ []))
unfolding IsDistinct
follows = record {
  degree = inr (inr (inr (inl refl)));
  distinct = ((refl, tt), (tt, tt));
  in_order = ((inr (record { place = 1; inside = omega arith; same = refl; less = omega arith }), tt), (tt, tt));
}

pub by_digits : Transition numbers hash (table (hashed ((38, 1) ∷ []) ∷ [])) (Change 0 InPlace (Insert 22 2)) (Done true)
    (table (hashed ((22, 2) ∷ (38, 1) ∷ []) ∷ []))
by_digits = (refl, (refl, (hashed ((22, 2) ∷ (38, 1) ∷ []), (IsPermutation-refl ((22, 2) ∷ (38, 1) ∷ []), refl, refl), follows, refl)))

abbrev on_hashed : List (Command ℕ ℕ ℕ)
on_hashed =
    MakeDegree kind.HashTrieMap 16
    ∷ Change 0 InPlace (Insert 38 1)
    ∷ Copy 0
    ∷ Change 1 InPlace (Insert 38 5)
    ∷ Change 1 New (Remove 9)
    ∷ Make kind.HashTrieSet
    ∷ Change 3 InPlace (InsertItem 7)
    ∷ Change 3 New (RemoveItem 7)
    ∷ Change 3 InPlace (RemoveItem 8)
    ∷ []

abbrev replies_on_hashed : List Reply
replies_on_hashed = Made 0 ∷ Done true ∷ Made 1 ∷ Done true ∷ Made 2 ∷ Made 3 ∷ Done true ∷ Made 4 ∷ Done false ∷ []

abbrev own_hashed : ℕ → Option Numbers
own_hashed = own numbers (table []) (history on_hashed replies_on_hashed)

-- a copy is changed apart, and an absent key is removed into an equal version
pub own_hashed_maps : (own_hashed 0 ≡ Some (hashed ((38, 1) ∷ []))) × (own_hashed 1 ≡ Some (hashed ((38, 5) ∷ []))) × (own_hashed 2 ≡ own_hashed 1)
own_hashed_maps = (refl, refl, refl)

pub own_hashed_sets : (own_hashed 3 ≡ Some (hashed_set (7 ∷ []))) × (own_hashed 4 ≡ Some (hashed_set [])) × (own_hashed 5 ≡ None)
own_hashed_sets = (refl, refl, refl)

-- changes of hashed containers have no budget
pub spent_on_hashed : spent numbers (table []) (history on_hashed replies_on_hashed) ≡ budget 0 0 0
spent_on_hashed = refl

-- SORTED LISTS, LISTS OF ITEMS AND GREATEST SIZES

abbrev ordered_set : List ℕ → Numbers
ordered_set ms = version.RedBlackTreeSet (record { members = ms; depth = 0 })

module _ (pairs : Vec (ℕ × ℕ) ℕ) (items : Vec ℕ ℕ) (two : pairs.items ≡ (1, 10) ∷ (2, 20) ∷ []) (one : items.items ≡ 3 ∷ []) where
  abbrev on_sorted : List (Command ℕ ℕ ℕ)
  on_sorted = MakeSorted pairs ∷ MakeSortedItems items ∷ Change 1 New (InsertItem 4) ∷ Make kind.Vector ∷ Extend 3 items ∷ Extend 3 items ∷ []

  abbrev replies_on_sorted : List Reply
  replies_on_sorted = Made 0 ∷ Made 1 ∷ Made 2 ∷ Made 3 ∷ Done true ∷ Done true ∷ []

  abbrev own_sorted : ℕ → Option Numbers
  own_sorted = own numbers (table []) (history on_sorted replies_on_sorted)

  pub own_sorted_containers : (own_sorted 0 ≡ Some (ordered ((1, 10) ∷ (2, 20) ∷ []))) × (own_sorted 1 ≡ Some (ordered_set (3 ∷ [])))
      × (own_sorted 2 ≡ Some (ordered_set (3 ∷ 4 ∷ [])))
  own_sorted_containers = rw (two, one) (refl, refl, refl)

  pub own_extended : own_sorted 3 ≡ Some (vector (3 ∷ 3 ∷ []) 5)
  own_extended = simp one refl

  -- a list takes a node for each pair or member; the insertion into a set of one compares two keys at most
  pub spent_on_sorted : spent numbers (table []) (history on_sorted replies_on_sorted) ≡ budget 1 2 6
  unfolding floor_log2
  spent_on_sorted = rw (two, one) refl

-- the first member that isn't above the one before it is reported by its position
pub not_ascending : (items : Vec ℕ ℕ) → items.items ≡ 1 ∷ 2 ∷ 2 ∷ 1 ∷ [] → refuses [] (MakeSortedItems items) ≡ Some (NotAscending 2)
unfolding first_out_of_order
not_ascending items is = rw is refl

-- a list of the greatest size takes no item more, and a vector none but no items
pub full_list : (xs : List ℕ) → length xs ≡ greatest → refuses (list xs ∷ []) (Change 0 New (PushFront 1)) ≡ Some Full
full_list xs full = rw full refl

pub full_vector : (xs : List ℕ) (items : Vec ℕ ℕ) → length xs ≡ greatest → items.items ≡ 3 ∷ [] → refuses (vector xs 5 ∷ []) (Extend 0 items) ≡ Some Full
full_vector xs items full is = rw (full, is) refl

pub no_items : (xs : List ℕ) (items : Vec ℕ ℕ) → length xs ≡ greatest → items.items ≡ [] → refuses (vector xs 5 ∷ []) (Extend 0 items) ≡ None
no_items xs items full is = rw (full, is) refl

-- QUESTIONS

abbrev answer_to : List Numbers → Question ℕ → answers.AnswerValue ℕ ℕ
answer_to t question = answer numbers numbers (table t) question

pub items_at : (answer_to (vector (4 ∷ 5 ∷ []) 63 ∷ []) (At 0 1) ≡ answers.item (Some 5)) × (answer_to (vector (4 ∷ 5 ∷ []) 63 ∷ []) (At 0 2) ≡ answers.item None)
    × (answer_to (list (2 ∷ []) ∷ []) (At 0 0) ≡ answers.refused WrongKind)
items_at = (refl, refl, refl)

-- in range as many nodes are visited as the last position has digits, out of range none
pub visits_of : (visits {V = ℕ} (record { items = 4 ∷ 5 ∷ []; bits = 63 }) 1 ≡ width 2 63) × (visits {V = ℕ} (record { items = 4 ∷ 5 ∷ []; bits = 63 }) 2 ≡ 0)
visits_of = (refl, refl)

pub ends_and_sizes : (answer numbers numbers lists (First 1) ≡ answers.item (Some 2)) × (answer numbers numbers lists (First 0) ≡ answers.item None)
    × (answer numbers numbers lists (First 3) ≡ answers.refused NoVersion) × (answer numbers numbers lists (Last 1) ≡ answers.item (Some 1))
    × (answer_to (queue (1 ∷ []) 0 ∷ []) (Last 0) ≡ answers.refused WrongKind) × (answer numbers numbers lists (Size 1) ≡ answers.count 2)
ends_and_sizes = (refl, refl, refl, refl, refl, refl)

-- the first items that differ decide, not the sizes
pub first_items_decide : answer_to (list (2 ∷ []) ∷ list (1 ∷ 5 ∷ []) ∷ []) (Compare 0 1) ≡ answers.order Greater
first_items_decide = refl

pub ranges : (answer_to (ordered ((1, 10) ∷ (2, 20) ∷ []) ∷ []) (Range 0 (Excluded 1) Unbounded) ≡ answers.pairs ((2, 20) ∷ []))
    × (answer_to (ordered ((1, 10) ∷ (2, 20) ∷ []) ∷ []) (Range 0 (Included 2) (Excluded 2)) ≡ answers.pairs [])
    × (answer_to (ordered [] ∷ []) (Range 0 (Excluded 2) (Excluded 2)) ≡ answers.refused BadRange)
ranges = (refl, refl, refl)

-- a version that isn't there is reported before a kind that doesn't fit
pub of_sets : (answer_to (hashed_set (1 ∷ []) ∷ hashed_set (2 ∷ 1 ∷ []) ∷ []) (Subset 0 1) ≡ answers.truth true)
    × (answer_to (ordered_set (1 ∷ []) ∷ ordered_set (2 ∷ 3 ∷ []) ∷ []) (Disjoint 0 1) ≡ answers.truth true)
    × (answer_to (hashed_set (1 ∷ []) ∷ []) (Contains 0 2) ≡ answers.truth false) × (answer_to (list [] ∷ []) (Subset 0 9) ≡ answers.refused NoVersion)
of_sets = (refl, refl, refl, refl)
