-- What expressions mean.
use Rattle.std.specs.Prelude.{ℕ, zero, suc, ◌+◌, ◌^◌, nat_lt, bytes_eq, string_bytes, List, Option, Some, None, if◌then◌else◌, option_and_then}
use Rattle.example_scopes.specs.declared.expr.Expr.{Expr, Number, Name, Sum', Let', Function', Call'}

-- the bytes of a name
abbrev pub Text : Type 0
Text = List ℕ

mutual
  -- a number, or a function: what its argument is called, its body, and what names stood for where it was made
  pub data Meaning : Type 0 where
    number : ℕ → Meaning
    function : Text → Expr → Names → Meaning

  -- what names stand for, the innermost binding first
  pub data Names : Type 0 where
    nothing : Names
    bound : Text → Meaning → Names → Names

abbrev pub number_of : Meaning → Option ℕ
number_of (number n) = Some n
number_of (function name body names) = None

-- the sum of two numbers, if it has 64 bits
abbrev pub sum_of : Meaning → Meaning → Option Meaning
sum_of (number a) (number b) = if nat_lt (a + b) (2 ^ 64) then Some (number (a + b)) else None
sum_of _ _ = None

-- the body of a function, where its argument stands before what names stood for where the function was made
abbrev pub called : (Names → Expr → Option Meaning) → Meaning → Meaning → Option Meaning
called mean (number n) argument = None
called mean (function name body names) argument = mean (bound name argument names) body

-- the innermost binding of a name
abbrev pub innermost : Text → Names → Option Meaning
innermost name nothing = None
innermost name (bound own m names) = if bytes_eq own name then Some m else innermost name names

-- what an expression means where names stand for this, if its evaluation goes no deeper than so many steps
abbrev pub meaning : ℕ → Names → Expr → Option Meaning
meaning zero names expr = None
meaning (suc depth) names (Number n) = Some (number n)
meaning (suc depth) names (Name name) = innermost (string_bytes name) names
meaning (suc depth) names (Sum' p left q right) =
    option_and_then (λ l. option_and_then (sum_of l) (meaning depth names right)) (meaning depth names left)
meaning (suc depth) names (Let' name p value q body) =
    option_and_then (λ v. meaning depth (bound (string_bytes name) v names) body) (meaning depth names value)
meaning (suc depth) names (Function' name p body) = Some (function (string_bytes name) body names)
meaning (suc depth) names (Call' p f q argument) =
    option_and_then (λ g. option_and_then (called (meaning depth) g) (meaning depth names argument)) (meaning depth names f)
