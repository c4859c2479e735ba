-- What names find, and what texts find.
use Rattle.std.proofs.Common.{◌≡◌, Bool, true, false, cond, List, [], ◌∷◌, Some, None, refl, sym, ap, ◌∙◌}
use Rattle.std.specs.declared.alloc.Global.{Global}
use Rattle.std.specs.declared.option.Option.{Option}
use Rattle.std.specs.declared.string.String.{String}
use Rattle.std.specs.Cmp.Lexicographic.{bytes_decides}
use Rattle.std.specs.List.{find as first}
use Rattle.std.specs.Option.{option_map}
use Rattle.std.specs.Str.{bytes_eq}
use Rattle.std.specs.String.{string_bytes, string_eq}
use Rattle.rpds.specs.HashedMap.{find}
use Rattle.example_scopes.specs.declared.value.Value.{Value}
use Rattle.example_scopes.specs.InScopes.{Bindings, bound_to, reads}
use Rattle.example_scopes.specs.Meaning.{Text}

-- what was found passes the test
passes : {A : Type 0} (test : A → Bool) (xs : List A) (x : A) → first test xs ≡ Some x → test x ≡ true
passes test [] x is = absurd (cc)
passes test (y ∷ xs) x is = go (test y) refl is (passes test xs x)
  where
    go : (b : Bool) → test y ≡ b → cond b (Some y) (first test xs) ≡ Some x → (first test xs ≡ Some x → test x ≡ true) → test x ≡ true
    go true test_is is behind = let same : y ≡ x = cc in ap test (sym same) ∙ test_is
    go false test_is is behind = behind is

-- where each name finds the same in both, so does each text
pub found_by_texts : (es fs : Bindings) → ((k : String Global) → find string_eq k es ≡ find string_eq k fs) → (text : Text)
    → find reads text es ≡ find reads text fs
found_by_texts es fs alike text = go (find reads text es) (find reads text fs) refl refl
  where
    at : (own : String Global) → reads own text ≡ true → find reads text es ≡ find reads text fs
    at own read =
        let same : string_bytes own ≡ text = (bytes_decides (string_bytes own) text).0 read in
        ap (λ t. find reads t es) (sym same) ∙ alike own ∙ ap (λ t. find reads t fs) same

    go : (o p : Option (String Global × Value)) → find reads text es ≡ o → find reads text fs ≡ p → find reads text es ≡ find reads text fs
    go (Some e) p there is = at e.0 (passes (λ b. reads b.0 text) es e there)
    go None (Some f) none there = at f.0 (passes (λ b. reads b.0 text) fs f there)
    go None None none is = none ∙ sym is

-- a name before others
pub bound_before : (own : String Global) (name : Text) (v : Value) (es : Bindings) (text : Text) → string_bytes own ≡ name
    → bound_to text ((own, v) ∷ es) ≡ cond (bytes_eq name text) (Some v) (bound_to text es)
bound_before own name v es text is =
    go (bytes_eq (string_bytes own) text) ∙ ap (λ n. cond (bytes_eq n text) (Some v) (bound_to text es)) is
  where
    go : (b : Bool) → option_map (λ p. p.1) (cond b (Some (own, v)) (find reads text es)) ≡ cond b (Some v) (bound_to text es)
    go true = refl
    go false = refl
