-- A hashed container of numbers has one order. So two lists of the same entries, each in the order of the
-- digits of its keys' hashes, are one list.
use Rattle.std.proofs.Common.{◌≡◌, ◌≢◌, ◌^◌, ◌<◌, ◌⊎◌, inl, inr, ⊎_elim, ℕ, false, nat_eq, List, [], ◌∷◌, All, map, slice_index_or, refl, sym, ap, subst, ◌∙◌}
use Rattle.std.proofs.Common.{arith}
use Rattle.std.specs.List.{AllByRecursion, IsDistinct}
use Rattle.std.specs.List.Sorted.{IsPermutation}
use Rattle.std.proofs.lemmas.Bool.{cases_order, false≢true}
use Rattle.std.proofs.lemmas.Bool.Decides.{eqb_tells}
use Rattle.std.proofs.lemmas.List.Elements.{All-cons, All-head, All-nil, All-tail}
use Rattle.std.proofs.lemmas.List.Sorted.{All-permutation, IsPermutation-sym}
use Rattle.std.proofs.lemmas.Map.Keys.{IsDistinct-head, IsDistinct-tail}
use Rattle.rpds_hash.specs.Digits.{AllFrom, FollowDigits, IsBefore, IsDegree, digit}
use Rattle.rpds_hash.specs.Identity.{number_hash}
use Rattle.rpds_hash.proofs.Identity.{number_kept}
use Rattle.rpds_hash_trie.proofs.Reach.{agree_digit}

-- x is an element of the list
abbrev In : {X : Type 0} → X → List X → Type 0
In x [] = ⊥
In x (y ∷ ys) = (x ≡ y) ⊎ In x ys

all_in : {X : Type 0} (xs : List X) → All (λ x. In x xs) xs
all_in [] = All-nil (λ x. In x [])
all_in (x ∷ xs) = All-cons (λ y. In y (x ∷ xs)) x xs (inl refl) (λ k d inside. inr (all_in xs k d inside))

-- LISTS IN A STRICT ORDER

module _ {X : Type 0} (R : X → X → Type 0) (once : (x y : X) → R x y → R y x → ⊥) where
  abbrev Strict : List X → Type 0
  Strict [] = Unit {0}
  Strict (x ∷ xs) = AllByRecursion (λ y. R x y) xs × Strict xs

  later : (x z : X) (xs : List X) → AllByRecursion (λ y. R x y) xs → In z xs → R x z
  later x z [] all within = absurd within
  later x z (y ∷ ys) all (inl is) = subst (R x) (sym is) all.0
  later x z (y ∷ ys) all (inr within) = later x z ys all.1 within

  -- what comes after the head is in the tail
  in_tail : (y z : X) (ys : List X) → R y z → In z (y ∷ ys) → In z ys
  in_tail y z ys after (inl is) =
      let itself : R y y = subst (R y) is after in
      absurd (once y y itself itself)
  in_tail y z ys after (inr within) = within

  same_head : (x y : X) (xs ys : List X) → Strict (x ∷ xs) → Strict (y ∷ ys) → In x (y ∷ ys) → In y (x ∷ xs) → x ≡ y
  same_head x y xs ys a b (inl is) there = is
  same_head x y xs ys a b (inr here) (inl is) = sym is
  same_head x y xs ys a b (inr here) (inr there) = absurd (once x y (later x y xs a.0 there) (later y x ys b.0 here))

  in_tails : (x y : X) (xs ys : List X) → x ≡ y → Strict (x ∷ xs) → All (λ z. In z (y ∷ ys)) (x ∷ xs) → All (λ z. In z ys) xs
  in_tails x y xs ys head a all k d inside =
      let z = slice_index_or xs k d in
      let after : R x z = later x z xs a.0 (all_in xs k d inside) in
      in_tail y z ys (subst (λ w. R w z) head after) (All-tail (λ z. In z (y ∷ ys)) x xs all k d inside)

  same_list : (xs ys : List X) → Strict xs → Strict ys → All (λ x. In x ys) xs → All (λ y. In y xs) ys → xs ≡ ys
  same_list [] [] a b p q = refl
  same_list [] (y ∷ ys) a b p q = absurd (All-head (λ y. In y []) y ys q)
  same_list (x ∷ xs) [] a b p q = absurd (All-head (λ x. In x []) x xs p)
  same_list (x ∷ xs) (y ∷ ys) a b p q =
      let head = same_head x y xs ys a b (All-head (λ x. In x (y ∷ ys)) x xs p) (All-head (λ y. In y (x ∷ xs)) y ys q) in
      let tail = same_list xs ys a.1 b.1 (in_tails x y xs ys head a p) (in_tails y x ys xs (sym head) b q) in
      λ i. head i ∷ tail i

  same_order : (xs ys : List X) → IsPermutation xs ys → Strict xs → Strict ys → xs ≡ ys
  same_order xs ys moved a b =
      same_list xs ys a b
      (All-permutation (λ x. In x ys) ys xs (IsPermutation-sym xs ys moved) (all_in ys))
      (All-permutation (λ y. In y xs) xs ys moved (all_in xs))

-- ENTRIES IN THE ORDER OF THE DIGITS OF THEIR KEYS' HASHES

module _ {X : Type 0} (key : X → ℕ) (bits : ℕ) where
  abbrev Before : X → X → Type 0
  Before x y = IsBefore (2 ^ bits) (number_hash (key x)) (number_hash (key y))

  once : (x y : X) → Before x y → Before y x → ⊥
  once x y a b = at (cases_order a.place b.place) where
    g : ℕ
    g = number_hash (key x)

    h : ℕ
    h = number_hash (key y)

    at : (a.place ≡ b.place) ⊎ ((a.place < b.place) ⊎ (b.place < a.place)) → ⊥
    at (inl is) = omega (arith, subst (λ d. digit (2 ^ bits) d g < digit (2 ^ bits) d h) is a.less, b.less)
    at (inr (inl lt)) = omega (arith, agree_digit bits a.place b.place h g lt b.same, a.less)
    at (inr (inr lt)) = omega (arith, agree_digit bits b.place a.place g h lt a.same, b.less)

  apart : (x y : X) → key x < 2 ^ 64 → key y < 2 ^ 64 → nat_eq (key x) (key y) ≡ false → number_hash (key y) ≢ number_hash (key x)
  apart x y fits fits' differ same =
      let empty : 0 < 2 ^ 64 = omega arith in
      let is : key x ≡ key y = sym (number_kept 0 (key x) empty fits) ∙ sym same ∙ number_kept 0 (key y) empty fits' in
      ⊎_elim (λ told. false≢true (sym differ ∙ told.0)) (λ told. told.1 is) (eqb_tells (key x) (key y))

  after : (x : X) (ys : List X) → key x < 2 ^ 64 → All (λ y. key y < 2 ^ 64) ys → AllByRecursion (λ k. nat_eq (key x) k ≡ false) (map key ys)
      → AllFrom (2 ^ bits) (number_hash (key x)) (map number_hash (map key ys)) → AllByRecursion (λ y. Before x y) ys
  after x [] fits all differ order = tt
  after x (y ∷ ys) fits all differ order =
      let first = ⊎_elim (λ same. absurd (apart x y fits (All-head (λ y. key y < 2 ^ 64) y ys all) differ.0 same)) (λ before. before) order.0 in
      (first, after x ys fits (All-tail (λ y. key y < 2 ^ 64) y ys all) differ.1 order.1)

  strict : (xs : List X) → All (λ x. key x < 2 ^ 64) xs → IsDistinct nat_eq (map key xs) → FollowDigits (2 ^ bits) (map number_hash (map key xs))
      → Strict Before once xs
  strict [] all distinct order = tt
  strict (x ∷ xs) all distinct order = (
    after x xs (All-head (λ x. key x < 2 ^ 64) x xs all) (All-tail (λ x. key x < 2 ^ 64) x xs all) (IsDistinct-head nat_eq (key x) (map key xs) distinct)
        order.0,
    strict xs (All-tail (λ x. key x < 2 ^ 64) x xs all) (IsDistinct-tail nat_eq (key x) (map key xs) distinct) order.1,
  )

  one_order_of : (xs ys : List X) → IsPermutation xs ys → All (λ x. key x < 2 ^ 64) xs → All (λ y. key y < 2 ^ 64) ys
      → IsDistinct nat_eq (map key xs) → IsDistinct nat_eq (map key ys)
      → FollowDigits (2 ^ bits) (map number_hash (map key xs)) → FollowDigits (2 ^ bits) (map number_hash (map key ys)) → xs ≡ ys
  one_order_of xs ys moved fit fits distinct distinct' order order' =
      same_order Before once xs ys moved (strict xs fit distinct order) (strict ys fits distinct' order')

bits_of : (degree : ℕ) → IsDegree degree → (n : ℕ) × (degree ≡ 2 ^ n)
bits_of degree (inl is) = (1, is)
bits_of degree (inr (inl is)) = (2, is)
bits_of degree (inr (inr (inl is))) = (3, is)
bits_of degree (inr (inr (inr (inl is)))) = (4, is)
bits_of degree (inr (inr (inr (inr (inl is))))) = (5, is)
bits_of degree (inr (inr (inr (inr (inr is))))) = (6, is)

-- of the degree that the container has
pub one_order : {X : Type 0} (key : X → ℕ) (degree : ℕ) → IsDegree degree → (xs ys : List X) → IsPermutation xs ys → All (λ x. key x < 2 ^ 64) xs
    → All (λ y. key y < 2 ^ 64) ys
    → IsDistinct nat_eq (map key xs) → IsDistinct nat_eq (map key ys)
    → FollowDigits degree (map number_hash (map key xs)) → FollowDigits degree (map number_hash (map key ys)) → xs ≡ ys
one_order key degree is xs ys moved fit fits distinct distinct' order order' =
    let bits : (n : ℕ) × (degree ≡ 2 ^ n) = bits_of degree is in
    one_order_of key bits.0 xs ys moved fit fits distinct distinct'
    (subst (λ d. FollowDigits d (map number_hash (map key xs))) bits.1 order) (subst (λ d. FollowDigits d (map number_hash (map key ys))) bits.1 order')

map_itself : (xs : List ℕ) → map (λ x. x) xs ≡ xs
map_itself [] = refl
map_itself (x ∷ xs) = ap (λ l. x ∷ l) (map_itself xs)

-- where the entries are their own keys
pub one_order_of_numbers : (degree : ℕ) → IsDegree degree → (xs ys : List ℕ) → IsPermutation xs ys → All (λ x. x < 2 ^ 64) xs → All (λ y. y < 2 ^ 64) ys
    → IsDistinct nat_eq xs → IsDistinct nat_eq ys → FollowDigits degree (map number_hash xs) → FollowDigits degree (map number_hash ys) → xs ≡ ys
one_order_of_numbers degree is xs ys moved fit fits distinct distinct' order order' =
    one_order (λ x. x) degree is xs ys moved fit fits
    (subst (IsDistinct nat_eq) (sym (map_itself xs)) distinct) (subst (IsDistinct nat_eq) (sym (map_itself ys)) distinct')
    (subst (λ l. FollowDigits degree (map number_hash l)) (sym (map_itself xs)) order) (subst (λ l. FollowDigits degree (map number_hash l))
    (sym (map_itself ys)) order')
