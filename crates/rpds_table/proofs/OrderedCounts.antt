-- The counts of a search in an ordered version.
use Rattle.std.proofs.Common.{[], ◌∷◌, ◌≡◌, ◌≢◌, ◌+◌, ◌<◌, ◌≤◌, ◌↔◌, Bool, true, false, cond, Option, Some, None, List, IsTrue, IsSome, is_some, refl, rules}
use Rattle.std.proofs.Common.{arith, ℕ}
use Rattle.std.specs.Option.{option_map}
use Rattle.rpds_core.specs.Counts.{IsWithin}
use Rattle.rpds_core.specs.declared.steps.Steps.{Steps}
use Rattle.rpds_table.specs.Budgets.{IsWithinBudget, budget, one_unless_empty}
use Rattle.rpds_table.specs.LookUps.{IsOrderedLookUp}
use Rattle.rpds_table.specs.Outcomes.{if_found}
use Rattle.rpds_table.proofs.Budgets.{no_work, searched}
use Rattle.rpds_table.specs.declared.table.outcome.Outcome.TheVariants.{Nothing, Absent, Becomes}

module _ {S : Type 0} where
  pub looked_up : (xs : List S) (depth most : ℕ) (old new : Steps) → new.compared ≤ old.compared + depth → depth ≤ most → old.compared ≤ new.compared
      → (xs ≢ [] → old.compared < new.compared) → new ≡ record old { compared = new.compared } → IsOrderedLookUp (one_unless_empty xs) most old new
  looked_up xs depth most old new within levels least compares only = record {
    compared_least = searched xs old.compared new.compared least compares;
    compared_most = omega (arith, within, levels);
    only = only;
  }

  pub changed : (xs : List S) (compared made : ℕ) (old new : Steps) → IsWithin compared made old new → (xs ≢ [] → old.compared < new.compared)
      → IsWithinBudget (budget (one_unless_empty xs) compared made) old new
  changed xs compared made old new within compares = record {
    least = searched xs old.compared new.compared within.compared_least compares;
    within = within;
  }

  -- in an empty container nothing is due
  pub empty_unspent : (xs : List S) (compared made : ℕ) (steps : Steps) → xs ≡ [] → IsWithinBudget (budget (one_unless_empty xs) compared made) steps steps
  empty_unspent [] compared made steps e = no_work (budget 0 compared made) steps refl
  empty_unspent (y ∷ ys) compared made steps e = search (rules, e)

module _ {S F T : Type 0} (x : T) where
  pub found_nothing : (xs : List S) (found : Option F) → xs ≡ [] → if_found xs found x ≡ Nothing
  found_nothing [] found e = refl
  found_nothing (y ∷ ys) found e = search (rules, e)

  pub found_or_absent : (xs : List S) (found : Option F) (there : Bool) → xs ≢ [] → there ≡ is_some found → if_found xs found x ≡ cond there (Becomes x) Absent
  found_or_absent [] found there some e = absurd (some refl)
  found_or_absent (y ∷ ys) None there some e = rw e refl
  found_or_absent (y ∷ ys) (Some f) there some e = rw e refl

  pub reports_found : (xs : List S) (found : Option F) (there : Bool) → xs ≢ [] → (IsTrue there ↔ IsSome found)
      → if_found xs found x ≡ cond there (Becomes x) Absent
  reports_found [] found there some e = absurd (some refl)
  reports_found (y ∷ ys) None true some e = search (rules, e)
  reports_found (y ∷ ys) None false some e = refl
  reports_found (y ∷ ys) (Some f) true some e = refl
  reports_found (y ∷ ys) (Some f) false some e = search (rules, e)

  pub found_value : {G : Type 0} (to : F → G) (v : G) (xs : List S) (found : Option F) → xs ≢ [] → option_map to found ≡ Some v
      → if_found xs found x ≡ Becomes x
  found_value to v [] found some e = absurd (some refl)
  found_value to v (y ∷ ys) None some e = search (rules, e)
  found_value to v (y ∷ ys) (Some f) some e = refl

  pub found_no_value : {G : Type 0} (to : F → G) (xs : List S) (found : Option F) → xs ≢ [] → option_map to found ≡ None → if_found xs found x ≡ Absent
  found_no_value to [] found some e = absurd (some refl)
  found_no_value to (y ∷ ys) None some e = refl
  found_no_value to (y ∷ ys) (Some f) some e = search (rules, e)
