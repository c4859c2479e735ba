-- What values mean where scopes go by number.
use Rattle.std.specs.Prelude.{◌≡◌, ◌⊎◌, ℕ, ◌+◌, ◌^◌, nat_lt, Bool, bytes_eq, String, string_bytes, Option, None, Some, Result, Ok, Err, List, [], length, take, slice_get, option_map, option_and_then, if◌then◌else◌, IsSomeAnd}
use Rattle.std.specs.declared.alloc.Global.{Global}
use Rattle.rpds.specs.HashedMap.{HashedMap, find}
use Rattle.example_scopes.specs.declared.expr.Expr.{Expr}
use Rattle.example_scopes.specs.declared.expr.Fault.{Fault}
use Rattle.example_scopes.specs.declared.expr.Fault.TheVariants.{NoMemory}
use Rattle.example_scopes.specs.declared.value.Value.{Value}
use Rattle.example_scopes.specs.declared.value.Value.TheVariants as value
use Rattle.example_scopes.specs.Meaning.{Meaning, Names, Text, number, function, nothing, bound, meaning}

-- the sum of two numbers, if it has 64 bits
abbrev pub added : Value → Value → Option Value
added (value.Number a) (value.Number b) = if nat_lt (a + b) (2 ^ 64) then Some (value.Number (a + b)) else None
added _ _ = None

-- the number that a value is, if it isn't a closure
abbrev pub number_in : Value → Option ℕ
number_in (value.Number n) = Some n
number_in (value.Closure argument code scope) = None

-- a scope's names with their values
abbrev pub Bindings : Type 0
Bindings = List (String Global × Value)

-- whether a name of a scope reads as a text
abbrev pub reads : String Global → Text → Bool
reads name text = bytes_eq (string_bytes name) text

-- the value of the name that reads as a text
abbrev pub bound_to : Text → Bindings → Option Value
bound_to text bindings = option_map (λ p. p.1) (find reads text bindings)

-- all scopes that were made, by number
abbrev pub ScopeList : Type 0 → Type 0
ScopeList H = List (HashedMap (String Global) Value H)

module _ {H : Type 0} where
  -- what a name stands for in a scope
  abbrev pub value_of : ScopeList H → ℕ → Text → Option Value
  value_of scopes scope name = option_and_then (λ s. bound_to name s.entries) (slice_get scopes scope)

  -- the inner scope is the outer one with a binding before the others
  pub record Binds (scopes : ScopeList H) (outer : ℕ) (name : Text) (v : Value) (inner : ℕ) : Type 0 where
    pub around : HashedMap (String Global) Value H
    pub within : HashedMap (String Global) Value H
    pub outer_is : slice_get scopes outer ≡ Some around
    pub inner_is : slice_get scopes inner ≡ Some within
    pub found : (text : Text) → bound_to text within.entries ≡ (if bytes_eq name text then Some v else bound_to text around.entries)

  abbrev mutual
    -- names stand for this in the scope of this number
    pub HasNames : ScopeList H → Names → ℕ → Type 0
    HasNames scopes nothing scope = option_map (λ s. s.entries) (slice_get scopes scope) ≡ Some []
    HasNames scopes (bound name m names) scope =
        (outer : ℕ) × (v : Value) × Binds scopes outer name v scope × HasMeaning scopes m v × HasNames scopes names outer

    -- the value is the number, or a closure of the function's body, in whose scope names stand for what they did there
    pub HasMeaning : ScopeList H → Meaning → Value → Type 0
    HasMeaning scopes (number n) (value.Number x) = x ≡ n
    HasMeaning scopes (function name body names) (value.Closure argument code scope) =
        (argument.now ≡ name) × (code.now ≡ body) × HasNames scopes names scope
    HasMeaning scopes (number n) (value.Closure argument code scope) = ⊥
    HasMeaning scopes (function name body names) (value.Number x) = ⊥

  -- a value has the meaning; a fault says that there is none, unless memory was wanting
  abbrev pub Tells : ScopeList H → Option Meaning → Result Value Fault → Type 0
  Tells scopes meant (Ok v) = IsSomeAnd meant (λ m. HasMeaning scopes m v)
  Tells scopes meant (Err fault) = (fault ≡ NoMemory) ⊎ (meant ≡ None)

  -- what the evaluation of an expression comes to: the scopes that were there stay, and where names stand for something in
  -- its scope, the result tells the meaning that the expression has there
  pub record Outcome (depth : ℕ) (expr : Expr) (scope : ℕ) (old new : ScopeList H) (result : Result Value Fault) : Type 0 where
    pub stay : take (length old) new ≡ old
    pub tells : (names : Names) → HasNames old names scope → Tells new (meaning depth names expr) result

  -- what the evaluation of a body comes to, in a new scope in which the name stands for the value: the scopes that were there
  -- stay, and where names stand for something in the outer scope, and the value has a meaning, the result tells the meaning
  -- that the body has with the name bound to it
  pub record BodyOutcome (depth : ℕ) (body : Expr) (outer : ℕ) (name : Text) (v : Value) (old new : ScopeList H) (result : Result Value Fault) : Type 0 where
    pub stay : take (length old) new ≡ old
    pub tells : (names : Names) (m : Meaning) → HasNames old names outer → HasMeaning old m v
        → Tells new (meaning depth (bound name m names) body) result
