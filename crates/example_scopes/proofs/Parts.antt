-- What each kind of expression comes to, by its parts.
use Rattle.std.proofs.Common.{◌≡◌, ◌⊎◌, ℕ, zero, suc, ◌-◌, ◌≤◌, Some, None, SomeIff, Ok, Err, length, take, refl, sym, ap, subst, ◌∙◌, inl, inr, arith}
use Rattle.std.specs.declared.alloc.Global.{Global}
use Rattle.std.specs.declared.option.Option.{Option}
use Rattle.std.specs.declared.result.Result.{Result}
use Rattle.std.specs.declared.string.String.{String}
use Rattle.std.specs.Borrow.{Bor}
use Rattle.std.specs.List.{slice_get}
use Rattle.std.specs.Option.{option_and_then, option_map, IsSomeAnd}
use Rattle.std.specs.Result.{IsErrAnd, result_ok}
use Rattle.std.specs.String.{string_bytes}
use Rattle.std.proofs.Math.Seq.{take-length}
use Rattle.example_scopes.specs.declared.expr.Expr.{Expr, Number, Name, Sum', Let', Function', Call'}
use Rattle.example_scopes.specs.declared.expr.Fault.{Fault}
use Rattle.example_scopes.specs.declared.expr.Fault.TheVariants.{NoMemory}
use Rattle.example_scopes.specs.declared.value.Value.{Value}
use Rattle.example_scopes.specs.declared.value.Value.TheVariants as value
use Rattle.example_scopes.specs.Meaning.{Meaning, Names, Text, number, function, nothing, bound, meaning, innermost, number_of, sum_of, called}
use Rattle.example_scopes.specs.InScopes.{BodyOutcome, number_in, ScopeList, Binds, HasNames, HasMeaning, Outcome, Tells, added, value_of}
use Rattle.example_scopes.proofs.Grown.{grown_twice}
use Rattle.example_scopes.proofs.Sums.{the_sum}
use Rattle.example_scopes.proofs.Values.{looked_up, meaning_later, names_later, names_stand, unbound}

-- a depth from which one was taken
pub one_more : (full less : ℕ) (taken : Option ℕ) → SomeIff taken (1 ≤ full) (full - 1) → taken ≡ Some less → full ≡ suc less
one_more full less None is taken_is = absurd (cc)
one_more full less (Some n) is taken_is = let same : n ≡ less = cc in omega (arith, is.0, is.1, same)

-- an error that `?` passes on
pub passed : {A : Type 0} (P : Result A Fault → Type 0) (r : Result A Fault) (fault : Fault) → IsErrAnd r (λ f. f ≡ fault) → P (Err fault) → P r
passed P (Ok v) fault is holds = absurd is
passed P (Err f) fault is holds = subst (λ f. P (Err f)) (sym is) holds

or_none : {L A B : Type 0} {o : Option A} {p : Option B} → (o ≡ None → p ≡ None) → L ⊎ (o ≡ None) → L ⊎ (p ≡ None)
or_none further (inl l) = inl l
or_none further (inr none) = inr (further none)

or_absurd : {L A B : Type 0} → (A → ⊥) → L ⊎ A → L ⊎ B
or_absurd not (inl l) = inl l
or_absurd not (inr a) = absurd (not a)

nothing_after : {A B : Type 0} (o : Option A) (p : Option B) → p ≡ None → option_and_then (λ (_ : A). p) o ≡ None
nothing_after None p none = refl
nothing_after (Some x) p none = none

-- what an expression that was matched means
meaning_is : {full depth : ℕ} {expr e : Expr} (names : Names) → full ≡ suc depth → expr ≡ e → meaning full names expr ≡ meaning (suc depth) names e
meaning_is {full} {depth} {expr} {e} names more is = ap (λ n. meaning n names expr) more ∙ ap (meaning (suc depth) names) is

sum_is : {full depth : ℕ} {expr left right left_in right_in : Expr} {p q : _} → full ≡ suc depth → expr ≡ Sum' p left_in q right_in → left ≡ left_in
    → right ≡ right_in
    → (names : Names) → meaning full names expr ≡ option_and_then (λ l. option_and_then (sum_of l) (meaning depth names right))
    (meaning depth names left)
sum_is {full} {depth} {expr} {left} {right} {left_in} {right_in} {p} {q} more is left_is right_is names =
    meaning_is names more (is ∙ ap (λ e. Sum' p e q right_in) (sym left_is) ∙ ap (λ e. Sum' p left q e) (sym right_is))

let_is : {full depth : ℕ} {expr of body of_in body_in : Expr} {name : String Global} {p q : _} → full ≡ suc depth → expr ≡ Let' name p of_in q body_in → of ≡ of_in
    → body ≡ body_in
    → (names : Names) → meaning full names expr ≡ option_and_then (λ m. meaning depth (bound (string_bytes name) m names) body) (meaning depth names of)
let_is {full} {depth} {expr} {of} {body} {of_in} {body_in} {name} {p} {q} more is of_is body_is names =
    meaning_is names more (is ∙ ap (λ e. Let' name p e q body_in) (sym of_is) ∙ ap (λ e. Let' name p of q e) (sym body_is))

call_is : {full depth : ℕ} {expr f argument f_in argument_in : Expr} {p q : _} → full ≡ suc depth → expr ≡ Call' p f_in q argument_in → f ≡ f_in
    → argument ≡ argument_in
    → (names : Names) → meaning full names expr ≡ option_and_then (λ g. option_and_then (called (meaning depth) g)
    (meaning depth names argument)) (meaning depth names f)
call_is {full} {depth} {expr} {f} {argument} {f_in} {argument_in} {p} {q} more is f_is argument_is names =
    meaning_is names more (is ∙ ap (λ e. Call' p e q argument_in) (sym f_is) ∙ ap (λ e. Call' p f q e) (sym argument_is))

module _ {H : Type 0} where
  -- a part that is evaluated first and has no value, and one after it
  first_fails : {full depth scope : ℕ} {expr first : Expr} {old new : ScopeList H} {fault : Fault} {r : Result Value Fault}
      (then : Names → Meaning → Option Meaning)
      → ((names : Names) → meaning full names expr ≡ option_and_then (then names) (meaning depth names first))
      → Outcome depth first scope old new (Err fault)
      → IsErrAnd r (λ f. f ≡ fault) → Outcome full expr scope old new r
  first_fails {full} {depth} {scope} {expr} {first} {old} {new} {fault} {r} then is fails passes = passed (Outcome full expr scope old new) r fault
      passes (record {
        stay = fails.stay;
        tells = λ names has. or_none (λ none. is names ∙ ap (option_and_then (then names)) none) (fails.tells names has);
      })

  second_fails : {full depth scope : ℕ} {expr first second : Expr} {old middle new : ScopeList H} {v : Value} {fault : Fault} {r : Result Value Fault}
      (then : Meaning → Meaning → Option Meaning)
      → ((names : Names) → meaning full names expr ≡ option_and_then (λ m. option_and_then (then m) (meaning depth names second))
      (meaning depth names first))
      → Outcome depth first scope old middle (Ok v) → Outcome depth second scope middle new (Err fault) → IsErrAnd r (λ f. f ≡ fault)
      → Outcome full expr scope old new r
  second_fails {full} {depth} {scope} {expr} {first} {second} {old} {middle} {new} {v} {fault} {r} then is done fails passes = passed
      (Outcome full expr scope old new) r fault passes (record {
        stay = grown_twice old middle new done.stay fails.stay;
        tells = λ names has. or_none (λ none. is names
            ∙ ap (λ o. option_and_then (λ m. option_and_then (then m) o) (meaning depth names first)) none
            ∙ nothing_after (meaning depth names first) None refl)
            (fails.tells names (names_later old middle done.stay names scope has));
      })

  pub too_deep : (full : ℕ) {scope : ℕ} {expr : Expr} {scopes : ScopeList H} {r : Result Value Fault} (fault : Fault) (taken : Option ℕ)
      → SomeIff taken (1 ≤ full) (full - 1) → taken ≡ None → IsErrAnd r (λ f. f ≡ fault) → Outcome full expr scope scopes scopes r
  too_deep zero {scope} {expr} {scopes} {r} fault taken is none passes =
      passed (Outcome zero expr scope scopes scopes) r fault passes (record { stay = take-length scopes; tells = λ names has. inr refl })
  too_deep (suc full) fault None is none passes = absurd (is (omega arith))
  too_deep (suc full) fault (Some n) is none passes = absurd (cc)

  pub number_tells : {full depth scope n : ℕ} {expr : Expr} {scopes : ScopeList H} → full ≡ suc depth → expr ≡ Number n
      → Outcome full expr scope scopes scopes (Ok (value.Number n))
  number_tells {full} {depth} {scope} {n} {expr} {scopes} more is = record {
    stay = take-length scopes;
    tells = λ names has. subst (λ o. Tells scopes o (Ok (value.Number n))) (sym (meaning_is names more is)) refl;
  }

  pub name_tells : {full depth scope : ℕ} {expr : Expr} {name : String Global} {text : Text} {scopes : ScopeList H} {r : Result Value Fault} → full ≡ suc depth
      → expr ≡ Name name → text ≡ string_bytes name → result_ok r ≡ value_of scopes scope text → Outcome full expr scope scopes scopes r
  name_tells {full} {depth} {scope} {expr} {name} {text} {scopes} {r} more is text_is found = record {
    stay = take-length scopes;
    tells = λ names has. subst (λ o. Tells scopes o r) (sym (meaning_is names more is)) (go names has r (sym (found ∙ ap (value_of scopes scope) text_is)));
  }
    where
      go : (names : Names) → HasNames scopes names scope → (r : Result Value Fault) → value_of scopes scope (string_bytes name) ≡ result_ok r
          → Tells scopes (innermost (string_bytes name) names) r
      go names has (Ok v) there = looked_up scopes (string_bytes name) v names scope has there
      go names has (Err fault) gone = inr (unbound scopes (string_bytes name) names scope has gone)

  pub sum_fails_left : {full depth scope : ℕ} {expr left left_in right_in : Expr} {p q : _} {old new : ScopeList H} {fault : Fault}
      {r : Result Value Fault} → full ≡ suc depth
      → expr ≡ Sum' p left_in q right_in → left ≡ left_in → Outcome depth left scope old new (Err fault) → IsErrAnd r (λ f. f ≡ fault)
      → Outcome full expr scope old new r
  sum_fails_left {full} {depth} {right_in = right_in} more is left_is fails passes =
      first_fails (λ names l. option_and_then (sum_of l) (meaning depth names right_in)) (sum_is more is left_is refl) fails passes

  pub sum_fails_right : {full depth scope : ℕ} {expr left right left_in right_in : Expr} {p q : _} {old middle new : ScopeList H} {v : Value}
      {fault : Fault} {r : Result Value Fault}
      → full ≡ suc depth → expr ≡ Sum' p left_in q right_in → left ≡ left_in → right ≡ right_in → Outcome depth left scope old middle (Ok v)
      → Outcome depth right scope middle new (Err fault) → IsErrAnd r (λ f. f ≡ fault) → Outcome full expr scope old new r
  sum_fails_right more is left_is right_is done fails passes = second_fails sum_of (sum_is more is left_is right_is) done fails passes

  pub sum_tells : {full depth scope : ℕ} {expr left right left_in right_in : Expr} {p q : _} {old middle new : ScopeList H} {l r : Value}
      {result : Result Value Fault}
      → full ≡ suc depth → expr ≡ Sum' p left_in q right_in → left ≡ left_in → right ≡ right_in → Outcome depth left scope old middle (Ok l)
      → Outcome depth right scope middle new (Ok r) → result_ok result ≡ added l r → Outcome full expr scope old new result
  sum_tells {full} {depth} {scope} {expr} {left} {right} {left_in} {right_in} {p} {q} {old} {middle} {new} {l} {r} {result} more is left_is right_is first
      second sums = record {
        stay = grown_twice old middle new first.stay second.stay;
        tells = λ names has. subst (λ o. Tells new o result) (sym (sum_is more is left_is right_is names))
            (the_sum middle new l r (meaning depth names left) (meaning depth names right) result sums (first.tells names has)
            (second.tells names (names_later old middle first.stay names scope has)));
      }

  pub let_fails : {full depth scope : ℕ} {expr of of_in body_in : Expr} {name : String Global} {p q : _} {old new : ScopeList H} {fault : Fault}
      {r : Result Value Fault} → full ≡ suc depth
      → expr ≡ Let' name p of_in q body_in → of ≡ of_in → Outcome depth of scope old new (Err fault) → IsErrAnd r (λ f. f ≡ fault)
      → Outcome full expr scope old new r
  let_fails {full} {depth} {body_in = body_in} {name = name} more is of_is fails passes =
      first_fails (λ names m. meaning depth (bound (string_bytes name) m names) body_in) (let_is more is of_is refl) fails passes

  -- the scope around a body is there
  pub body_binds : {depth outer : ℕ} {body : Expr} {name : Text} {old new : ScopeList H} {v : Value} {fault : Fault} {r : Result Value Fault}
      → take (length old) new ≡ old → (fault ≡ NoMemory) ⊎ (slice_get old outer ≡ None) → IsErrAnd r (λ f. f ≡ fault)
      → BodyOutcome depth body outer name v old new r
  body_binds {depth} {outer} {body} {name} {old} {new} {v} {fault} {r} grown why passes = passed (BodyOutcome depth body outer name v old new) r fault
      passes (record {
        stay = grown;
        tells = λ names m has means. or_absurd (names_stand old names outer has) why;
      })

  pub body_tells : {depth outer inner : ℕ} {body : Expr} {name : Text} {old before new : ScopeList H} {v : Value} {r : Result Value Fault}
      → take (length old) before ≡ old → Binds before outer name v inner → Outcome depth body inner before new r
      → BodyOutcome depth body outer name v old new r
  body_tells {depth} {outer} {inner} {body} {name} {old} {before} {new} {v} {r} grown binds runs = record {
    stay = grown_twice old before new grown runs.stay;
    tells = λ names m has means. runs.tells (bound name m names)
        (outer, v, binds, meaning_later old before grown m v means, names_later old before grown names outer has);
  }

  pub let_tells : {full depth scope : ℕ} {expr of body of_in body_in : Expr} {name : String Global} {text : Text} {p q : _} {old middle new : ScopeList H} {v : Value}
      {r : Result Value Fault}
      → full ≡ suc depth → expr ≡ Let' name p of_in q body_in → of ≡ of_in → body ≡ body_in → text ≡ string_bytes name → Outcome depth of scope old middle (Ok v)
      → BodyOutcome depth body scope text v middle new r → Outcome full expr scope old new r
  let_tells {full} {depth} {scope} {expr} {of} {body} {of_in} {body_in} {name} {text} {p} {q} {old} {middle} {new} {v} {r} more is of_is body_is text_is first second =
      record {
        stay = grown_twice old middle new first.stay second.stay;
        tells = λ names has. subst (λ o. Tells new o r) (sym (let_is more is of_is body_is names))
            (go names has (meaning depth names of) (first.tells names has));
      }
    where
      go : (names : Names) → HasNames old names scope → (o : Option Meaning) → IsSomeAnd o (λ m. HasMeaning middle m v)
          → Tells new (option_and_then (λ m. meaning depth (bound (string_bytes name) m names) body) o) r
      go names has None means = absurd means
      go names has (Some m) means = subst (λ (n : Text). Tells new (meaning depth (bound n m names) body) r) text_is
          (second.tells names m (names_later old middle first.stay names scope has) means)

  pub function_tells : {full depth scope : ℕ} {expr body : Expr} {name : String Global} {own : Bor Text} {p : _} {b : Bor Expr} {scopes : ScopeList H} → full ≡ suc depth
      → expr ≡ Function' name p body
      → own.now ≡ string_bytes name → b.now ≡ body → Outcome full expr scope scopes scopes (Ok (value.Closure own b scope))
  function_tells {full} {depth} {scope} {expr} {body} {name} {own} {p} {b} {scopes} more is own_is code_is = record {
    stay = take-length scopes;
    tells = λ names has. subst (λ o. Tells scopes o (Ok (value.Closure own b scope))) (sym (meaning_is names more is)) (own_is, code_is, has);
  }

  pub call_fails_function : {full depth scope : ℕ} {expr f f_in argument_in : Expr} {p q : _} {old new : ScopeList H} {fault : Fault}
      {r : Result Value Fault} → full ≡ suc depth
      → expr ≡ Call' p f_in q argument_in → f ≡ f_in → Outcome depth f scope old new (Err fault) → IsErrAnd r (λ f. f ≡ fault)
      → Outcome full expr scope old new r
  call_fails_function {full} {depth} {argument_in = argument_in} more is f_is fails passes =
      first_fails (λ names g. option_and_then (called (meaning depth) g) (meaning depth names argument_in)) (call_is more is f_is refl) fails passes

  pub call_fails_argument : {full depth scope : ℕ} {expr f argument f_in argument_in : Expr} {p q : _} {old middle new : ScopeList H} {v : Value}
      {fault : Fault} {r : Result Value Fault}
      → full ≡ suc depth → expr ≡ Call' p f_in q argument_in → f ≡ f_in → argument ≡ argument_in → Outcome depth f scope old middle (Ok v)
      → Outcome depth argument scope middle new (Err fault) → IsErrAnd r (λ f. f ≡ fault) → Outcome full expr scope old new r
  call_fails_argument {full} {depth} more is f_is argument_is done fails passes = second_fails (called (meaning depth))
      (call_is more is f_is argument_is) done fails passes

  -- a number can't be called
  pub number_called : {full depth scope n : ℕ} {expr f f_in argument_in : Expr} {p q : _} {old new : ScopeList H} {v : Value} {fault : Fault}
      → full ≡ suc depth
      → expr ≡ Call' p f_in q argument_in → f ≡ f_in → Outcome depth f scope old new (Ok v) → v ≡ value.Number n
      → Outcome full expr scope old new (Err fault)
  number_called {full} {depth} {scope} {n} {expr} {f} {f_in} {argument_in} {p} {q} {old} {new} {v} {fault} more is f_is first v_is = record {
    stay = first.stay;
    tells = λ names has. inr (call_is more is f_is refl names
        ∙ go names (meaning depth names f) (subst (λ v. IsSomeAnd (meaning depth names f) (λ m. HasMeaning new m v)) v_is (first.tells names has)));
  }
    where
      go : (names : Names) (o : Option Meaning) → IsSomeAnd o (λ m. HasMeaning new m (value.Number n))
          → option_and_then (λ g. option_and_then (called (meaning depth) g) (meaning depth names argument_in)) o ≡ None
      go names None means = refl
      go names (Some (number a)) means = nothing_after (meaning depth names argument_in) None refl
      go names (Some (function name body around)) means = absurd means

  pub call_tells : {full depth scope made_in : ℕ} {expr f argument f_in argument_in : Expr} {p q : _} {own : Bor Text} {b : Bor Expr}
      {old middle later new : ScopeList H} {g v : Value} {r : Result Value Fault}
      → full ≡ suc depth → expr ≡ Call' p f_in q argument_in → f ≡ f_in → argument ≡ argument_in
      → Outcome depth f scope old middle (Ok g) → g ≡ value.Closure own b made_in → Outcome depth argument scope middle later (Ok v)
      → BodyOutcome depth b.now made_in own.now v later new r → Outcome full expr scope old new r
  call_tells {full} {depth} {scope} {made_in} {expr} {f} {argument} {f_in} {argument_in} {p} {q} {own} {b} {old} {middle} {later} {new} {g} {v} {r} more is
      f_is argument_is first g_is second third = record {
        stay = grown_twice old later new (grown_twice old middle later first.stay second.stay) third.stay;
        tells = λ names has. subst (λ o. Tells new o r) (sym (call_is more is f_is argument_is names))
            (go (meaning depth names f) (meaning depth names argument)
            (subst (λ g. IsSomeAnd (meaning depth names f) (λ m. HasMeaning middle m g)) g_is (first.tells names has))
            (second.tells names (names_later old middle first.stay names scope has)));
      }
    where
      go : (o a : Option Meaning) → IsSomeAnd o (λ m. HasMeaning middle m (value.Closure own b made_in)) → IsSomeAnd a (λ m. HasMeaning later m v)
          → Tells new (option_and_then (λ g. option_and_then (called (meaning depth) g) a) o) r
      go None a means gives = absurd means
      go (Some m) None means gives = absurd gives
      go (Some (number n)) (Some m) means gives = absurd means
      go (Some (function name body around)) (Some m) means gives =
          let runs = third.tells around m (names_later middle later second.stay around made_in means.2) gives in
          subst (λ (e : Expr). Tells new (meaning depth (bound name m around) e) r) means.1
          (subst (λ (k : Text). Tells new (meaning depth (bound k m around) b.now) r) means.0 runs)

  -- the number that an expression means where no name stands for anything
  pub answers : {depth : ℕ} {expr : Expr} {old new : ScopeList H} {v : Value} → HasNames old nothing 0 → Outcome depth expr 0 old new (Ok v)
      → option_map number_of (meaning depth nothing expr) ≡ Some (number_in v)
  answers {depth} {expr} {old} {new} {v} none means = go (meaning depth nothing expr) v (means.tells nothing none)
    where
      go : (o : Option Meaning) (v : Value) → IsSomeAnd o (λ m. HasMeaning new m v) → option_map number_of o ≡ Some (number_in v)
      go None v h = absurd h
      go (Some (number a)) (value.Number n) h = ap (λ x. Some (Some x)) (sym h)
      go (Some (number a)) (value.Closure own b made_in) h = absurd h
      go (Some (function name body names)) (value.Number n) h = absurd h
      go (Some (function name body names)) (value.Closure own b made_in) h = refl
