-- Two iterators seen as lists, after a call of each.
use Rattle.std.proofs.Common.{◌≡◌, Option, None, Some, List, [], ◌∷◌, ap, sym, refl, ◌∙◌, true, false}
use Rattle.std.proofs.lemmas.Bool.{true≢false}
use Rattle.std.specs.Ordering.{is_ne, ordering_then, partial_ordering_then}
use Rattle.std.specs.declared.cmp.Ordering.{Ordering}
use Rattle.std.specs.declared.cmp.Ordering.TheVariants.{Less, Equal, Greater}
use Rattle.rpds_core.specs.Sequence.{ShowsList}

module _ {S X T R : Type 0} {gives : S → Option X → S → Type 0} {see : X → T} {rest : S → List T} (shows : ShowsList gives see rest) (f : List T → List T → R) where
  module _ {left left' right right' : S} where
    pub both_more : {a b : X} → gives left (Some a) left' → gives right (Some b) right' → f (rest left) (rest right) ≡ f (see a ∷ rest left') (see b ∷ rest right')
    both_more {a} {b} x y = ap (λ l. f l (rest right)) (shows left (Some a) left' x) ∙ ap (λ l. f (see a ∷ rest left') l) (shows right (Some b) right' y)

    pub right_ends : {a : X} → gives left (Some a) left' → gives right None right' → f (rest left) (rest right) ≡ f (see a ∷ rest left') []
    right_ends {a} x y = ap (λ l. f l (rest right)) (shows left (Some a) left' x) ∙ ap (λ l. f (see a ∷ rest left') l) (shows right None right' y).0

    pub left_ends : {b : X} → gives left None left' → gives right (Some b) right' → f (rest left) (rest right) ≡ f [] (see b ∷ rest right')
    left_ends {b} x y = ap (λ l. f l (rest right)) (shows left None left' x).0 ∙ ap (λ l. f [] l) (shows right (Some b) right' y)

    pub both_end : gives left None left' → gives right None right' → f (rest left) (rest right) ≡ f [] []
    both_end x y = ap (λ l. f l (rest right)) (shows left None left' x).0 ∙ ap (λ l. f [] l) (shows right None right' y).0

-- two items that differ decide, whatever comes behind them
pub differs : (o : Ordering) → is_ne o ≡ true → (rest : Ordering) → ordering_then o rest ≡ o
differs Less _ rest = refl
differs Equal e rest = absurd (true≢false (sym e))
differs Greater _ rest = refl

pub differs_partly : (o : Ordering) → is_ne o ≡ true → (rest : Option Ordering) → partial_ordering_then (Some o) rest ≡ Some o
differs_partly Less _ rest = refl
differs_partly Equal e rest = absurd (true≢false (sym e))
differs_partly Greater _ rest = refl

-- two items that are equal leave it to what comes behind them
pub ties : (o : Ordering) → is_ne o ≡ false → (rest : Ordering) → ordering_then o rest ≡ rest
ties Less e rest = absurd (true≢false e)
ties Equal _ rest = refl
ties Greater e rest = absurd (true≢false e)

pub ties_partly : (o : Ordering) → is_ne o ≡ false → (rest : Option Ordering) → partial_ordering_then (Some o) rest ≡ rest
ties_partly Less e rest = absurd (true≢false e)
ties_partly Equal _ rest = refl
ties_partly Greater e rest = absurd (true≢false e)
