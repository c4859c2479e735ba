-- What the meanings of two values add up to.
use Rattle.std.proofs.Common.{◌≡◌, ℕ, ◌+◌, ◌^◌, nat_lt, Bool, true, false, cond, Some, None, Ok, Err, refl, ap, subst, ◌∙◌, inr}
use Rattle.std.specs.declared.option.Option.{Option}
use Rattle.std.specs.declared.result.Result.{Result}
use Rattle.std.specs.Option.{option_and_then, IsSomeAnd}
use Rattle.std.specs.Result.{result_ok}
use Rattle.example_scopes.specs.declared.expr.Fault.{Fault}
use Rattle.example_scopes.specs.declared.value.Value.{Value}
use Rattle.example_scopes.specs.declared.value.Value.TheVariants as value
use Rattle.example_scopes.specs.Meaning.{Meaning, number, function, sum_of}
use Rattle.example_scopes.specs.InScopes.{ScopeList, HasMeaning, Tells, added}

module _ {H : Type 0} where
  no_value : (new : ScopeList H) (o : Option Meaning) (result : Result Value Fault) → result_ok result ≡ None → o ≡ None → Tells new o result
  no_value new o (Ok v) is none = absurd (cc)
  no_value new o (Err fault) is none = inr none

  number_if : (new : ScopeList H) (n : ℕ) (fits : Bool) (result : Result Value Fault) → result_ok result ≡ cond fits (Some (value.Number n)) None
      → Tells new (cond fits (Some (number n)) None) result
  number_if new n true (Ok v) is = let same : value.Number n ≡ v = cc in subst (HasMeaning new (number n)) same refl
  number_if new n true (Err fault) is = absurd (cc)
  number_if new n false result is = no_value new None result is refl

  pub the_sum : (middle new : ScopeList H) (l r : Value) (a b : Option Meaning) (result : Result Value Fault) → result_ok result ≡ added l r
      → IsSomeAnd a (λ m. HasMeaning middle m l) → IsSomeAnd b (λ m. HasMeaning new m r)
      → Tells new (option_and_then (λ l. option_and_then (sum_of l) b) a) result
  the_sum middle new l r None b result is first second = absurd first
  the_sum middle new l r (Some a) None result is first second = absurd second
  the_sum middle new (value.Number x) (value.Number y) (Some (number a)) (Some (number b)) result is first second =
      subst (λ n. Tells new (cond (nat_lt n (2 ^ 64)) (Some (number n)) None) result) (ap (λ x. x + y) first ∙ ap (λ y. a + y) second)
      (number_if new (x + y) (nat_lt (x + y) (2 ^ 64)) result is)
  the_sum middle new (value.Number x) (value.Number y) (Some (number a)) (Some (function name body names)) result is first second = absurd second
  the_sum middle new (value.Number x) r (Some (function name body names)) (Some b) result is first second = absurd first
  the_sum middle new (value.Number x) (value.Closure own c made_in) (Some (number a)) (Some (number b)) result is first second = absurd second
  the_sum middle new (value.Number x) (value.Closure own c made_in) (Some (number a)) (Some (function name body names)) result is first second = no_value
      new None result is refl
  the_sum middle new (value.Closure own c made_in) r (Some (number a)) (Some b) result is first second = absurd first
  the_sum middle new (value.Closure own c made_in) r (Some (function name body names)) (Some b) result is first second = no_value new None result is refl
