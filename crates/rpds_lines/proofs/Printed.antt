-- What is known where a line was printed.
use Rattle.std.proofs.Common.{◌≡◌, ℕ, List, [], ◌∷◌, ◌++◌, Option, Some, IfSome, codes, rules, sym, ap, subst, ◌∙◌, append_assoc, append-nil}
use Rattle.std.proofs.KnownBytes.{Appends-trans}
use Rattle.std.proofs.lemmas.Grind.{flat_map-append}
use Rattle.std.proofs.lemmas.Result.{on_ok_weaker}
use Rattle.std.specs.Fmt.{◌++?◌}
use Rattle.std.specs.Io.KnownBytes.{Appends}
use Rattle.std.specs.List.{flat_map}
use Rattle.std.specs.Prelude.{IsOk, OnOk, Result, Ok, Err}
use Rattle.rpds_lines.proofs.Texts.{HasText}

pub OnOk_written : {T U E F : Type 0} {P Q : Type 0} (printed : Result T E) (served : Result U F) → OnOk served (IsOk printed) → OnOk printed P → (P → Q)
    → OnOk served Q
OnOk_written printed (Err e) ok given from = tt
OnOk_written (Ok x) (Ok y) ok given from = from given
OnOk_written (Err e) (Ok y) ok given from = search rules

-- The writer had the items printed that come before those that are left.
pub record PrintsRange {X : Type 0} (text : X → List ℕ) (items left : List X) (before now : Option (List ℕ)) : Type 0 where
  pub done : List X
  pub all : items ≡ done ++ left
  pub written : Appends before now (codes "range" ++ flat_map text done)

module _ {X : Type 0} (text : X → List ℕ) (items left : List X) (before between : Option (List ℕ)) (printed : PrintsRange text items left before between) where
  -- one more is printed
  pub range_next : (x : X) (rest : List X) (after : Option (List ℕ)) → left ≡ x ∷ rest → Appends between after (text x)
      → PrintsRange text items rest before after
  range_next x rest after next more =
      let done = printed.done in
      let texts = append_assoc (codes "range") (flat_map text done) (text x) ∙ ap (λ l. codes "range" ++ (flat_map text done ++ l)) (sym (append-nil (text x)))
      ∙ ap (λ l. codes "range" ++ l) (sym (flat_map-append text done (x ∷ []))) in record {
        done = done ++ x ∷ [];
        all = printed.all ∙ ap (λ l. done ++ l) next ∙ sym (append_assoc done (x ∷ []) rest);
        written = subst (Appends before after) texts (Appends-trans before between after _ _ printed.written more);
      }

  -- the line is ended behind the last one
  pub range_ended : {T E : Type 0} (ended : Result T E) (after : Option (List ℕ)) → left ≡ [] → OnOk ended (Appends between after (10 ∷ []))
      → OnOk ended (Appends before after ((codes "range" ++ flat_map text items) ++ 10 ∷ []))
  range_ended ended after none more =
      let all = sym (printed.all ∙ ap (λ l. printed.done ++ l) none ∙ append-nil printed.done) in
      on_ok_weaker ended
      (λ end. subst (λ l. Appends before after ((codes "range" ++ flat_map text l) ++ 10 ∷ [])) all (Appends-trans before between after _ _ printed.written
      end)) more

-- the line of a text that is displayed
pub text_shown : {T E : Type 0} (text : Option (List ℕ)) → HasText text → (before after : Option (List ℕ)) (printed : Result T E)
    → OnOk printed (IfSome (text ++? Some (10 ∷ [])) (Appends before after)) → OnOk printed ((bytes : List ℕ) × (text ≡ Some bytes)
    × Appends before after (bytes ++ 10 ∷ []))
text_shown text has before after printed shown =
    on_ok_weaker printed (λ shown. (has.0, has.1, subst (λ t. IfSome (t ++? Some (10 ∷ [])) (Appends before after)) has.1 shown)) shown
