-- Equal containers have equal outcomes, for each kind.
use Rattle.std.proofs.Common.{◌≡◌, ℕ, List, [], ◌∷◌, Option, Some, None, is_some, length, sym, ap, subst, arith, rules}
use Rattle.rpds_table.specs.Compared.{Compared}
use Rattle.rpds_table.specs.Outcomes.{SameOutcome, if_found, if_room, unless_empty}
use Rattle.rpds_table.specs.Behaviours.{Behaviour, of_ops}
use Rattle.rpds_table.specs.Types.{Edit, Op, Outcome}
use Rattle.rpds_table.specs.declared.table.edit.Edit.TheVariants.{Change}
use Rattle.rpds_table.specs.declared.table.outcome.Outcome.TheVariants.{Becomes}

outcome_same : {T : Type 0} (same : T → T → Type 0) → ((x : T) → same x x) → (o : Outcome T) → SameOutcome same o o
outcome_same same self (Becomes x) = self x
outcome_same same self o = tt

-- one test has the same outcome for values that are the same
module _ {T : Type 0} (same : T → T → Type 0) (v w : T) (e : same v w) where
  pub room_alike : (n : ℕ) → SameOutcome same (if_room n v) (if_room n w)
  room_alike n = search (rules, e)

  pub empty_alike : {S : Type 0} (xs : List S) → SameOutcome same (unless_empty xs v) (unless_empty xs w)
  empty_alike [] = tt
  empty_alike (x ∷ xs) = e

  pub found_alike : {S F : Type 0} (xs ys : List S) → length ys ≡ length xs → (f g : Option F) → is_some f ≡ is_some g
      → SameOutcome same (if_found xs f v) (if_found ys g w)
  found_alike [] [] len f g is = tt
  found_alike [] (y ∷ ys) len f g is = absurd (omega (arith, len))
  found_alike (x ∷ xs) [] len f g is = absurd (omega (arith, len))
  found_alike (x ∷ xs) (y ∷ ys) len None None is = tt
  found_alike (x ∷ xs) (y ∷ ys) len (Some f) (Some g) is = e
  found_alike (x ∷ xs) (y ∷ ys) len f g is = cc

-- where edits are ops alone
pub ops_respect : {K V A T : Type 0} (same : T → T → Type 0) (f g : Op K V → Outcome T) → ((op : Op K V) → SameOutcome same (f op) (g op)) → (edit : Edit K V A)
    → SameOutcome same (of_ops f edit) (of_ops g edit)
ops_respect same f g alike (Change op) = alike op
ops_respect same f g alike edit = tt

module _ {K V H A T : Type 0} where
  pub record IsLawful (r : Behaviour K V H A T) : Type 0 where
    pub same : (x : T) → r.Same x x
    pub symm : (x y : T) → r.Same x y → r.Same y x
    pub trans : (x y z : T) → r.Same x y → r.Same y z → r.Same x z
    pub op_respects : (keys : Compared K) (op : Op K V) (x y : T) → r.Same x y → SameOutcome r.Same (r.outcome_of_op keys x op) (r.outcome_of_op keys y op)
    pub edit_respects : (keys : Compared K) (edit : Edit K V A) (x y : T) → r.Same x y
        → SameOutcome r.Same (r.outcome_of_edit keys x edit) (r.outcome_of_edit keys y edit)
    pub op_budget : (op : Op K V) (x y : T) → r.Same x y → r.budget_of_op x op ≡ r.budget_of_op y op
    pub edit_budget : (edit : Edit K V A) (x y : T) → r.Same x y → r.budget_of_edit x edit ≡ r.budget_of_edit y edit

  -- where containers are the same if they are equal
  pub exact_is_lawful : (r : Behaviour K V H A T) → ((x : T) → r.Same x x) → ((x y : T) → r.Same x y → x ≡ y) → IsLawful r
  exact_is_lawful r same equal = record {
    same = same;
    symm = λ x y e. subst (λ z. r.Same z x) (equal x y e) (same x);
    trans = λ x y z d e. subst (λ x. r.Same x z) (sym (equal x y d)) e;
    op_respects = λ keys op x y e. rw (equal x y e) (outcome_same r.Same same (r.outcome_of_op keys y op));
    edit_respects = λ keys edit x y e. rw (equal x y e) (outcome_same r.Same same (r.outcome_of_edit keys y edit));
    op_budget = λ op x y e. ap (λ x. r.budget_of_op x op) (equal x y e);
    edit_budget = λ edit x y e. ap (λ x. r.budget_of_edit x edit) (equal x y e);
  }
