-- What a formatter wrote, one text after another.
use Rattle.std.proofs.Common.{◌≡◌, ℕ, List, [], ◌∷◌, ◌++◌, map, Option, None, Some, IfSome, IsOk, Result, refl, sym, ap, subst, ◌∙◌, append-nil}
use Rattle.std.specs.Fmt.{◌++?◌, debug_items, comma_space, HasWrittenStyled, IsFlush, DisplaysStyledOnOk}
use Rattle.std.specs.declared.fmt.Error.{Error}
use Rattle.std.specs.declared.fmt.Formatter.{Formatter}
use Rattle.std.proofs.Output.{then_text_assoc, has_written_styled_append}

pub nothing_then : (o : Option (List ℕ)) → Some [] ++? o ≡ o
nothing_then None = refl
nothing_then (Some a) = refl

then_nothing : (o : Option (List ℕ)) → o ++? Some [] ≡ o
then_nothing None = refl
then_nothing (Some a) = ap Some (append-nil a)

pub map_push : {A B : Type 0} (f : A → B) (xs : List A) (x : A) → map f (xs ++ x ∷ []) ≡ map f xs ++ f x ∷ []
map_push f [] x = refl
map_push f (y ∷ ys) x = ap (λ zs. f y ∷ zs) (map_push f ys x)

module _ {X : Type 0} (text : X → Option (List ℕ)) where
  -- one item more
  pub items_push : (xs : List X) (x : X) → debug_items text comma_space (xs ++ x ∷ []) ≡ debug_items text comma_space xs ++? (Some comma_space ++? text x)
  items_push [] x = ap (λ o. Some comma_space ++? o) (then_nothing (text x)) ∙ sym (nothing_then _)
  items_push (y ∷ ys) x =
      ap (λ o. Some comma_space ++? (text y ++? o)) (items_push ys x)
      ∙ ap (λ o. Some comma_space ++? o) (sym (then_text_assoc (text y) _ _)) ∙ sym (then_text_assoc (Some comma_space) _ _)

module _ {W : Type 0} (took : W → List ℕ → W → Type 0) where
  -- g is f after writing the text in o, under f's options
  abbrev pub ShowsStyled : Formatter W → Option (List ℕ) → Formatter W → Type 0
  ShowsStyled f o g = IfSome o (λ bs. HasWrittenStyled took f bs g)

  after : (f g h : Formatter W) (a : List ℕ) (o : Option (List ℕ)) → HasWrittenStyled took f a g → ShowsStyled g o h → ShowsStyled f (Some a ++? o) h
  after f g h a None x y = tt
  after f g h a (Some b) x y = has_written_styled_append took f a g b h x y

  -- one text after another, where the options stay
  pub styled_then : (f g h : Formatter W) (o p : Option (List ℕ)) → ShowsStyled f o g → (IsFlush g → g.spec ≡ f.spec → ShowsStyled g p h) → ShowsStyled f (o ++? p) h
  styled_then f g h None p x y = tt
  styled_then f g h (Some a) p x y = after f g h a p x (y x.flush x.spec)

  module _ (f g : Formatter W) (r : Result (Unit {0}) Error) where
    -- from a clause, and back
    pub styled_from : (o : Option (List ℕ)) → DisplaysStyledOnOk took f r o g → IsFlush f → IsOk r → ShowsStyled f o g
    styled_from None x p ok = tt
    styled_from (Some a) x p ok = x p ok

    pub styled_displays : (o : Option (List ℕ)) → (IsFlush f → IsOk r → ShowsStyled f o g) → DisplaysStyledOnOk took f r o g
    styled_displays None k = tt
    styled_displays (Some a) k = k

  -- the first item, and the others after it
  pub styled_items : {X : Type 0} (text : X → Option (List ℕ)) (x : X) (xs : List X) (f g h : Formatter W) → ShowsStyled f (text x) g
      → (IsFlush g → g.spec ≡ f.spec → ShowsStyled g (debug_items text comma_space xs) h) → ShowsStyled f (debug_items text [] (x ∷ xs)) h
  styled_items text x xs f g h first others =
      subst (λ o. ShowsStyled f o h) (sym (nothing_then _)) (styled_then f g h (text x) (debug_items text comma_space xs) first others)
