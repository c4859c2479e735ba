-- What values mean while scopes are made.
use Rattle.std.proofs.Common.{◌≡◌, ℕ, Bool, true, false, cond, [], ◌∷◌, ◌++◌, Some, None, length, take, refl, sym, ap, subst, ◌∙◌}
use Rattle.std.specs.declared.alloc.Global.{Global}
use Rattle.std.specs.declared.option.Option.{Option}
use Rattle.std.specs.declared.string.String.{String}
use Rattle.std.specs.List.{slice_get}
use Rattle.std.specs.Borrow.{Bor}
use Rattle.std.specs.Option.{option_and_then, option_copied, option_map, IsSomeAnd}
use Rattle.std.specs.Str.{bytes_eq}
use Rattle.std.specs.String.{string_bytes, string_eq}
use Rattle.rpds.specs.HashedMap.{HashedMap, find}
use Rattle.example_scopes.specs.declared.value.Value.{Value}
use Rattle.example_scopes.specs.declared.value.Value.TheVariants as value
use Rattle.example_scopes.specs.Meaning.{Meaning, Names, Text, number, function, nothing, bound, innermost}
use Rattle.example_scopes.specs.InScopes.{ScopeList, Binds, HasNames, HasMeaning, bound_to, value_of}
use Rattle.std.proofs.Math.Seq.{take-append_seam}
use Rattle.example_scopes.proofs.Grown.{there_at_end, there_later}
use Rattle.example_scopes.proofs.Texts.{bound_before, found_by_texts}

module _ {H : Type 0} where
  -- a scope that was put at the end, with the name before what another one has
  pub bound_at_end : (old new : ScopeList H) (outer made : ℕ) (own : String Global) (name : Text) (v : Value)
      (got : Option (Bor (HashedMap (String Global) Value H))) (around : Bor (HashedMap (String Global) Value H))
      (within : HashedMap (String Global) Value H) → string_bytes own ≡ name → new ≡ old ++ within ∷ [] → made ≡ length old
      → option_copied got ≡ slice_get old outer → got ≡ Some around
      → ((k : String Global) → find string_eq k within.entries ≡ find string_eq k ((own, v) ∷ around.now.entries)) → Binds new outer name v made
  bound_at_end old new outer made own name v got around within own_is is last there got_is found = record {
    around = around.now;
    within = within;
    outer_is = there_later old new outer around.now (ap (take (length old)) is ∙ take-append_seam old (within ∷ [])) (sym there ∙ ap option_copied got_is);
    inner_is = rw (is, last) (there_at_end old within);
    found = λ text. ap (option_map (λ p. p.1)) (found_by_texts within.entries ((own, v) ∷ around.now.entries) found text)
        ∙ bound_before own name v around.now.entries text own_is;
  }

  pub binds_later : (old new : ScopeList H) (outer inner : ℕ) (name : Text) (v : Value) → take (length old) new ≡ old → Binds old outer name v inner
      → Binds new outer name v inner
  binds_later old new outer inner name v grown binds = record {
    around = binds.around;
    within = binds.within;
    outer_is = there_later old new outer binds.around grown binds.outer_is;
    inner_is = there_later old new inner binds.within grown binds.inner_is;
    found = binds.found;
  }

  names_of_nothing : (old new : ScopeList H) (scope : ℕ) → take (length old) new ≡ old → (o : Option (HashedMap (String Global) Value H)) → slice_get old scope ≡ o
      → option_map (λ s. s.entries) o ≡ Some [] → option_map (λ s. s.entries) (slice_get new scope) ≡ Some []
  names_of_nothing old new scope grown None is none = absurd (cc)
  names_of_nothing old new scope grown (Some s) is none = ap (option_map (λ s. s.entries)) (there_later old new scope s grown is) ∙ none

  mutual
    pub names_later : (old new : ScopeList H) → take (length old) new ≡ old → (names : Names) (scope : ℕ) → HasNames old names scope
        → HasNames new names scope
    names_later old new grown nothing scope has = names_of_nothing old new scope grown (slice_get old scope) refl has
    names_later old new grown (bound name m names) scope has = (
      has.0,
      has.1,
      binds_later old new has.0 scope name has.1 grown has.2,
      meaning_later old new grown m has.1 has.3,
      names_later old new grown names
          has.0 has.4,
    )

    pub meaning_later : (old new : ScopeList H) → take (length old) new ≡ old → (m : Meaning) (v : Value) → HasMeaning old m v → HasMeaning new m v
    meaning_later old new grown (number n) (value.Number x) has = has
    meaning_later old new grown (number n) (value.Closure own b scope) has = absurd has
    meaning_later old new grown (function name body names) (value.Number x) has = absurd has
    meaning_later old new grown (function name body names) (value.Closure own b scope) has = (has.0, has.1, names_later old new grown names scope has.2)

  -- a name that stands for a value in a scope has a binding of that meaning
  pub looked_up : (scopes : ScopeList H) (k : Text) (v : Value) (names : Names) (scope : ℕ) → HasNames scopes names scope
      → value_of scopes scope k ≡ Some v
      → IsSomeAnd (innermost k names) (λ m. HasMeaning scopes m v)
  looked_up scopes k v nothing scope has is = absurd (go (slice_get scopes scope) has is)
    where
      go : (o : Option (HashedMap (String Global) Value H)) → option_map (λ s. s.entries) o ≡ Some [] → option_and_then
          (λ s. bound_to k s.entries) o ≡ Some v → ⊥
      go None has is = cc
      go (Some s) has is =
          let none : s.entries ≡ [] = cc in
          let found : bound_to k [] ≡ Some v = rw none at is in
          cc
  looked_up scopes k v (bound name m names) scope has is =
      go (bytes_eq name k) here (looked_up scopes k v names has.0 has.4)
    where
      here : cond (bytes_eq name k) (Some has.1) (bound_to k has.2.around.entries) ≡ Some v
      here = sym (has.2.found k) ∙ rw has.2.inner_is at is

      go : (b : Bool) → cond b (Some has.1) (bound_to k has.2.around.entries) ≡ Some v
          → (value_of scopes has.0 k ≡ Some v → IsSomeAnd (innermost k names) (λ m. HasMeaning scopes m v))
          → IsSomeAnd (cond b (Some m) (innermost k names)) (λ m. HasMeaning scopes m v)
      go true found further = let same : has.1 ≡ v = cc in subst (HasMeaning scopes m) same has.3
      go false found further = further (rw has.2.outer_is found)

  -- a scope that has names is there
  pub names_stand : (scopes : ScopeList H) (names : Names) (scope : ℕ) → HasNames scopes names scope → slice_get scopes scope ≡ None → ⊥
  names_stand scopes nothing scope has none = go (slice_get scopes scope) has none
    where
      go : (o : Option (HashedMap (String Global) Value H)) → option_map (λ s. s.entries) o ≡ Some [] → o ≡ None → ⊥
      go None has none = cc
      go (Some s) has none = cc
  names_stand scopes (bound name m names) scope has none = let both : Some has.2.within ≡ None = sym has.2.inner_is ∙ none in cc

  -- a name that stands for nothing in a scope has no binding
  pub unbound : (scopes : ScopeList H) (k : Text) (names : Names) (scope : ℕ) → HasNames scopes names scope → value_of scopes scope k ≡ None
      → innermost k names ≡ None
  unbound scopes k nothing scope has is = refl
  unbound scopes k (bound name m names) scope has is = go (bytes_eq name k) here (unbound scopes k names has.0 has.4)
    where
      here : cond (bytes_eq name k) (Some has.1) (bound_to k has.2.around.entries) ≡ None
      here = sym (has.2.found k) ∙ rw has.2.inner_is at is

      go : (b : Bool) → cond b (Some has.1) (bound_to k has.2.around.entries) ≡ None
          → (value_of scopes has.0 k ≡ None → innermost k names ≡ None) → cond b (Some m) (innermost k names) ≡ None
      go true found further = absurd (cc)
      go false found further = further (rw has.2.outer_is found)
