-- What a formatter wrote of an iterator that is seen as a list.
use Rattle.std.proofs.Common.{◌≡◌, ℕ, List, [], ◌∷◌, ◌++◌, map, Option, None, Some, Result, Ok, refl, sym, ap, subst, ◌∙◌, append-nil}
use Rattle.std.specs.Fmt.{◌++?◌, debug_items, comma_space, IsPlainFormatter, WritesOnOk, DisplaysOnOk, WritesStyledOnOk, DisplaysStyledOnOk}
use Rattle.std.specs.declared.fmt.Error.{Error}
use Rattle.std.specs.declared.fmt.Formatter.{Formatter}
use Rattle.std.proofs.Debugs.{Shows, shows_then, shows_from, displays_from}
use Rattle.rpds_core.specs.Sequence.{ShowsList}
use Rattle.rpds_core.proofs.Texts.{nothing_then, styled_then, styled_from, styled_displays}

-- the texts of the items are those of what is seen of them
pub items_seen : {X T : Type 0} (own : X → Option (List ℕ)) (see : X → T) (text : T → Option (List ℕ)) → ((x : X) → own x ≡ text (see x))
    → (lead : List ℕ) (xs : List X) → debug_items own lead xs ≡ debug_items text lead (map see xs)
items_seen own see text agrees lead [] = refl
items_seen own see text agrees lead (x ∷ xs) = λ i. Some lead ++? agrees x i ++? items_seen own see text agrees comma_space xs i

-- once the first and the others were taken, that is all
pub all_seen : {S X T : Type 0} {gives : S → Option X → S → Type 0} {see : X → T} {rest : S → List T} → ShowsList gives see rest
    → {old next left end : S} {first : X} (others : List X) → gives old (Some first) next → map see others ++ rest left ≡ rest next → gives left None end
    → rest old ≡ map see (first ∷ others)
all_seen {see = see} {rest = rest} shows {old} {next} {left} {end} {first} others takes kept ends =
    shows old (Some first) next takes ∙ ap (λ l. see first ∷ l) (sym kept ∙ ap (λ l. map see others ++ l) (shows left None end ends).0 ∙ append-nil (map see others))

module _ {W : Type 0} (took : W → List ℕ → W → Type 0) where
  -- the first item, and the others after it
  pub plain_items : {X : Type 0} (text : X → Option (List ℕ)) (x : X) (xs : List X) (f g h : Formatter W) → Shows took f (text x) g
      → (IsPlainFormatter g → Shows took g (debug_items text comma_space xs) h) → Shows took f (debug_items text [] (x ∷ xs)) h
  plain_items text x xs f g h first others =
      subst (λ o. Shows took f o h) (sym (nothing_then _)) (shows_then took f g h (text x) (debug_items text comma_space xs) first others)

  -- a text before and one after what is shown between them
  pub plain_between : (opening closing : List ℕ) (shown : Option (List ℕ)) (f g h k : Formatter W) (r : Result (Unit {0}) Error)
      → WritesOnOk took f (Ok tt) opening g → DisplaysOnOk took g (Ok tt) shown h → WritesOnOk took h r closing k
      → DisplaysOnOk took f r (Some opening ++? shown ++? Some closing) k
  plain_between opening closing shown f g h k r before between behind =
      displays_from took f k r (Some opening ++? shown ++? Some closing) (λ plain ok.
      shows_then took f g k (Some opening) (shown ++? Some closing) (before plain refl) (λ plain'.
      shows_then took g h k shown (Some closing) (shows_from took g h (Ok tt) shown between plain' refl) (λ plain''. behind plain'' ok)))

  -- the same under the options of the whole, which are those of what is between
  pub styled_between : (opening closing : List ℕ) (shown : Option (List ℕ)) (f g h k : Formatter W) (r : Result (Unit {0}) Error)
      → WritesStyledOnOk took f (Ok tt) opening g → (g.spec ≡ f.spec → DisplaysStyledOnOk took g (Ok tt) shown h) → WritesStyledOnOk took h r closing k
      → DisplaysStyledOnOk took f r (Some opening ++? shown ++? Some closing) k
  styled_between opening closing shown f g h k r before between behind =
      styled_displays took f k r (Some opening ++? shown ++? Some closing) (λ flush ok.
      styled_then took f g k (Some opening) (shown ++? Some closing) (before flush refl) (λ flush' e.
      styled_then took g h k shown (Some closing) (styled_from took g h (Ok tt) shown (between e) flush' refl) (λ flush'' e'. behind flush'' ok)))
