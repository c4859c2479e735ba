-- What a binary search has found so far.
use denote.Param.Members.{Mut}
use Rattle.std.specs.Fn.{AlwaysReturns, Called}
use Rattle.std.proofs.lemmas.Option.{get_or_from_slice_get, slice_get_within}
use Rattle.std.specs.List.{AllWithin}
use Rattle.std.specs.List.Sorted.{IsNonDecreasingBy}
use Rattle.std.specs.Ordering.{ordering_index}
use Rattle.rpds_red_black.proofs.Words.{◌≡◌, ℕ, zero, suc, ◌+◌, ◌<◌, ◌≤◌, List, [], ◌∷◌, ◌++◌, Some, length, length-append, slice_get, refl, sym, ap, subst, ◌∙◌, arith}
use Rattle.rpds_red_black.proofs.Words.{Ordering, Less, Equal, Greater, is_eq, is_lt, true, false, true≢false, option_map, keys_of}
use Rattle.rpds_red_black.proofs.PairPositions.{at_left, at_own, at_right}

-- one more call of a closure that always answers so
pub answers_next : {F X R : Type 0} (g : Mut F X R) (P : X → R → Type 0) (f : F) (a : X) (r : R) (f' : F) → Called g f a r f' → AlwaysReturns g P f
    → P a r × AlwaysReturns g P f'
answers_next g P f a r f' c h = ((h.at (a ∷ []) r f' c).0, record { at = λ xs. (h.at (a ∷ xs) r f' c).1 })

pub equal_of : (o : Ordering) → is_eq o ≡ true → o ≡ Equal
equal_of Less h = absurd (true≢false (sym h))
equal_of Equal h = refl
equal_of Greater h = absurd (true≢false (sym h))

pub less_of : (o : Ordering) → is_lt o ≡ true → o ≡ Less
less_of Less h = refl
less_of Equal h = absurd (true≢false (sym h))
less_of Greater h = absurd (true≢false (sym h))

pub greater_of : (o : Ordering) → is_eq o ≡ false → is_lt o ≡ false → o ≡ Greater
greater_of Less e l = absurd (true≢false l)
greater_of Equal e l = absurd (true≢false e)
greater_of Greater e l = refl

lowest : (o : Ordering) → ordering_index o ≤ 0 → o ≡ Less
lowest Less h = refl
lowest Equal h = absurd (omega (arith, h))
lowest Greater h = absurd (omega (arith, h))

highest : (o : Ordering) → 2 ≤ ordering_index o → o ≡ Greater
highest Less h = absurd (omega (arith, h))
highest Equal h = absurd (omega (arith, h))
highest Greater h = refl

module _ {T : Type 0} (ord : T → Ordering) (xs : List T) where
  -- where the answers rise, the first ones are `Less`, and those behind the next `size` are `Greater`
  abbrev pub Narrowed : ℕ → ℕ → Type 0
  Narrowed before size = IsNonDecreasingBy (λ y. ordering_index (ord y)) xs
      → AllWithin (λ y. ord y ≡ Less) xs 0 before × AllWithin (λ y. ord y ≡ Greater) xs (before + size) (length xs)

  pub behind_less : (before size new rest m : ℕ) (x : T) → Narrowed before size → slice_get xs m ≡ Some x → ord x ≡ Less
      → new ≡ m + 1 → new + rest ≡ before + size → Narrowed new rest
  behind_less before size new rest m x n e less is same up = (
    λ k d a b. lowest _ (omega (
      arith,
      up k m d (omega (arith, is, b)) (slice_get_within xs m x e),
      ap (λ y. ordering_index (ord y)) (get_or_from_slice_get xs m x d e),
      ap ordering_index less,
    )),
    λ k d a b. (n up).1 k d (omega (arith, same, a)) b,
  )

  pub before_greater : (before size rest m : ℕ) (x : T) → Narrowed before size → slice_get xs m ≡ Some x → ord x ≡ Greater
      → m ≡ before + rest → Narrowed before rest
  before_greater before size rest m x n e greater is up = (
    (n up).0,
    λ k d a b. highest _ (omega (
      arith,
      up m k d (omega (arith, is, a)) b,
      ap (λ y. ordering_index (ord y)) (get_or_from_slice_get xs m x d e),
      ap ordering_index greater,
    )),
  )

-- the pairs of a tree that lie, so many, behind the first ones of all
abbrev pub LieBehind : {T : Type 0} → ℕ → List T → List T → Type 0
LieBehind before es all = (k : ℕ) → k < length es → slice_get all (before + k) ≡ slice_get es k

pub opened_lies : {T : Type 0} (before : ℕ) (es parts all : List T) → es ≡ parts → LieBehind before es all → LieBehind before parts all
opened_lies before es parts all e lie = subst (λ es. LieBehind before es all) e lie

module _ {T : Type 0} (l r all : List T) (e : T) (before : ℕ) (lie : LieBehind before (l ++ e ∷ r) all) where
  pub length_parts : length (l ++ e ∷ r) ≡ length l + 1 + length r
  length_parts = omega (arith, length-append l (e ∷ r))

  pub own_lies : slice_get all (before + length l) ≡ Some e
  own_lies = lie (length l) (omega (arith, length_parts)) ∙ at_own l r e

  pub left_lies : LieBehind before l all
  left_lies k h = lie k (omega (arith, length_parts, h)) ∙ at_left l r e k h

  pub right_lies : (new : ℕ) → new ≡ before + length l + 1 → LieBehind new r all
  right_lies new is k h =
      let place : before + (length l + 1 + k) ≡ new + k = omega (arith, is) in
      ap (λ i. slice_get all i) (sym place) ∙ lie (length l + 1 + k) (omega (arith, length_parts, h)) ∙ at_right l r e (length l + 1 + k) k refl

pub key_at : {K V : Type 0} (es : List (K × V)) (i : ℕ) (e : K × V) → slice_get es i ≡ Some e → slice_get (keys_of es) i ≡ Some e.0
key_at [] i e h = ap (option_map (λ p. p.0)) h
key_at (x ∷ es) zero e h = ap (option_map (λ p. p.0)) h
key_at (x ∷ es) (suc i) e h = key_at es i e h
