-- Equal ordered versions have equal outcomes and budgets.
use Rattle.std.proofs.Common.{◌≡◌, ◌∙◌, ◌+◌, length, refl, sym, ap}
use Rattle.rpds_tree.specs.OrderedMap.{OrderedMap}
use Rattle.rpds_tree.specs.OrderedSet.{OrderedSet, without_member}
use Rattle.rpds_tree.specs.Pairs.{without}
use Rattle.rpds_table.specs.Compared.{Compared}
use Rattle.rpds_table.specs.Kinds.RedBlackTreeMaps as maps
use Rattle.rpds_table.specs.Kinds.RedBlackTreeSets as sets
use Rattle.rpds_table.specs.Outcomes.{SameOutcome}
use Rattle.rpds_table.specs.Types.{Edit, Op}
use Rattle.rpds_table.specs.declared.table.edit.Edit.TheVariants.{Change, WriteKey}
use Rattle.rpds_table.specs.declared.table.op.Op.TheVariants.{Insert, Remove, InsertItem, RemoveItem}
use Rattle.rpds_table.proofs.Lawful.{IsLawful, found_alike, room_alike}

module _ {K V : Type 0} where
  ordered_map_op_budget : (op : Op K V) (m n : OrderedMap K V) → maps.Same m n → maps.budget_of_op m op ≡ maps.budget_of_op n op
  ordered_map_op_budget (Insert k v) m n e = rw e refl
  ordered_map_op_budget op m n e = ap (λ es. maps.budget_of_op {K = K} {V = V} (record { entries = es; depth = 0 }) op) e

  ordered_map_budget : {A : Type 0} (edit : Edit K V A) (m n : OrderedMap K V) → maps.Same m n → maps.budget_of_edit m edit ≡ maps.budget_of_edit n edit
  ordered_map_budget {A} (Change (Remove k)) m n e = rw e refl
  ordered_map_budget {A} edit m n e = ap (λ es. maps.budget_of_edit {K = K} {V = V} {A = A} (record { entries = es; depth = 0 }) edit) e

module _ {K V : Type 0} (keys : Compared K) where
  ordered_map_op_respects : (op : Op K V) (m n : OrderedMap K V) → maps.Same m n
      → SameOutcome maps.Same (maps.outcome_of_op keys m op) (maps.outcome_of_op keys n op)
  ordered_map_op_respects (Insert k v) m n e = rw e (room_alike (maps.Same {K = K} {V = V}) _ _ refl (length n.entries + 1))
  ordered_map_op_respects (Remove k) m n e = ap (without keys.cmp k) e
  ordered_map_op_respects op m n e = tt

  ordered_map_edit_respects : {A : Type 0} (edit : Edit K V A) (m n : OrderedMap K V) → maps.Same m n
      → SameOutcome maps.Same (maps.outcome_of_edit keys m edit) (maps.outcome_of_edit keys n edit)
  ordered_map_edit_respects (Change (Remove k)) m n e = rw e (found_alike (maps.Same {K = K} {V = V}) _ _ refl n.entries n.entries refl _ _ refl)
  ordered_map_edit_respects (Change op) m n e = ordered_map_op_respects op m n e
  ordered_map_edit_respects (WriteKey k v) m n e = rw e (found_alike (maps.Same {K = K} {V = V}) _ _ refl n.entries n.entries refl _ _ refl)
  ordered_map_edit_respects edit m n e = tt

module _ {K V : Type 0} where
  ordered_set_op_budget : (op : Op K V) (s t : OrderedSet K) → sets.Same s t → sets.budget_of_op s op ≡ sets.budget_of_op t op
  ordered_set_op_budget (InsertItem k) s t e = rw e refl
  ordered_set_op_budget op s t e = ap (λ ms. sets.budget_of_op {K = K} {V = V} (record { members = ms; depth = 0 }) op) e

  ordered_set_budget : {A : Type 0} (edit : Edit K V A) (s t : OrderedSet K) → sets.Same s t → sets.budget_of_edit s edit ≡ sets.budget_of_edit t edit
  ordered_set_budget {A} (Change (RemoveItem k)) s t e = rw e refl
  ordered_set_budget {A} edit s t e = ap (λ ms. sets.budget_of_edit {K = K} {V = V} {A = A} (record { members = ms; depth = 0 }) edit) e

module _ {K V : Type 0} (keys : Compared K) where
  ordered_set_op_respects : (op : Op K V) (s t : OrderedSet K) → sets.Same s t → SameOutcome sets.Same (sets.outcome_of_op keys s op)
      (sets.outcome_of_op keys t op)
  ordered_set_op_respects (InsertItem k) s t e = rw e (room_alike (sets.Same {K = K}) _ _ refl (length t.members + 1))
  ordered_set_op_respects (RemoveItem k) s t e = ap (without_member keys.cmp k) e
  ordered_set_op_respects op s t e = tt

  ordered_set_edit_respects : {A : Type 0} (edit : Edit K V A) (s t : OrderedSet K) → sets.Same s t
      → SameOutcome sets.Same (sets.outcome_of_edit keys s edit) (sets.outcome_of_edit keys t edit)
  ordered_set_edit_respects (Change (RemoveItem k)) s t e = rw e (found_alike (sets.Same {K = K}) _ _ refl t.members t.members refl _ _ refl)
  ordered_set_edit_respects (Change op) s t e = ordered_set_op_respects op s t e
  ordered_set_edit_respects edit s t e = tt

module _ (K V H A : Type 0) where
  pub ordered_map_is_lawful : IsLawful {K = K} {V = V} {H = H} {A = A} maps.behaviour
  ordered_map_is_lawful = record {
    same = λ m. refl;
    symm = λ m n e. sym e;
    trans = λ m n o d e. d ∙ e;
    op_respects = ordered_map_op_respects;
    edit_respects = λ keys. ordered_map_edit_respects keys;
    op_budget = ordered_map_op_budget;
    edit_budget = ordered_map_budget;
  }

  pub ordered_set_is_lawful : IsLawful {K = K} {V = V} {H = H} {A = A} sets.behaviour
  ordered_set_is_lawful = record {
    same = λ s. refl;
    symm = λ s t e. sym e;
    trans = λ s t u d e. d ∙ e;
    op_respects = λ keys. ordered_set_op_respects keys;
    edit_respects = λ keys. ordered_set_edit_respects keys;
    op_budget = ordered_set_op_budget;
    edit_budget = ordered_set_budget;
  }
