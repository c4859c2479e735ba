-- A stretch of a chain, cut in halves.
use Rattle.std.proofs.Common.{◌≡◌, ℕ, zero, suc, ◌+◌, ◌-◌, ◌*◌, ◌/◌, ◌^◌, ◌<◌, ◌≤◌, List, [], ◌∷◌, ◌++◌, length, take, drop, reverse, refl, ap, sym, ◌∙◌, subst, append_assoc, arith}
use Rattle.std.specs.Borrow.{Bor}
use Rattle.std.proofs.Math.Nat.{pow-suc}
use Rattle.std.proofs.Math.Seq.{take-add}
use Rattle.std.proofs.lemmas.List.{drop-drop, length-drop, reverse-append}
use Rattle.rpds_list.specs.declared.cells.Link.{Link}
use Rattle.rpds_list.specs.Chain.{items}
use Rattle.rpds_list.specs.Stretches.{items_of, to_top}

-- one more is dropped
pub drop_next : {T : Type 0} (i : ℕ) (xs ys : List T) (y : T) → y ∷ ys ≡ drop i xs → ys ≡ drop (i + 1) xs
drop_next i xs ys y e = ap (drop 1) e ∙ drop-drop 1 i xs

pub none_left : {T : Type 0} (i : ℕ) (xs : List T) → [] ≡ drop i xs → i < length xs → ⊥
none_left i xs e lt = absurd (omega (arith, ap length e, length-drop i xs))

-- a stretch is its front half and the rest
take_halves : {T : Type 0} (n h : ℕ) (xs : List T) → h ≤ n → take n xs ≡ take h xs ++ take (n - h) (drop h xs)
take_halves n h xs le = let e : n ≡ h + (n - h) = omega arith in ap (λ m. take m xs) e ∙ take-add h (n - h) xs

pub rest_within : {T : Type 0} (n h : ℕ) (xs rest : List T) → rest ≡ drop h xs → n ≤ length xs → n - h ≤ length rest
rest_within n h xs rest e le = omega (arith, ap length e, length-drop h xs)

-- while a stretch has two items, there is a place for its front half
pub place_for : (n k : ℕ) → 1 < n → n ≤ 2 ^ (64 - k) → k < 64
place_for n k more le = by (64 - k) refl le
  where
    by : (d : ℕ) → d ≡ 64 - k → n ≤ 2 ^ d → k < 64
    by zero e le = absurd (omega arith)
    by (suc d) e le = omega arith

-- the rest fits the next place
pub rest_fits : (n k : ℕ) → k < 64 → n ≤ 2 ^ (64 - k) → n - n / 2 ≤ 2 ^ (64 - suc k)
rest_fits n k lt le =
    let d = 64 - suc k in
    let e : 64 - k ≡ suc d = omega arith in
    let f : n ≤ 2 ^ d * 2 = subst (λ m. n ≤ m) (ap (λ m. 2 ^ m) e ∙ pow-suc 2 d) le in
    omega arith

-- what is kept, once the front half of a stretch is pushed
pub kept_halved : {T A : Type 0} (ps : List (Bor (Link T A) × ℕ)) (at : Bor (Link T A)) (n h : ℕ) (rest old : List T) → h ≤ n
    → rest ≡ drop h (items at.now) → to_top items_of ps ++ take n (items at.now) ≡ old
    → to_top items_of ((at, h) ∷ ps) ++ take (n - h) rest ≡ old
kept_halved ps at n h rest old le after kept =
    rw (after, append_assoc (to_top items_of ps) (take h (items at.now)) (take (n - h) (drop h (items at.now))))
    (ap (λ ys. to_top items_of ps ++ ys) (sym (take_halves n h (items at.now) le)) ∙ kept)

-- what ends in x begins with it from the back
pub from_back : {T : Type 0} (old xs : List T) (x : T) → xs ++ x ∷ [] ≡ old → reverse old ≡ x ∷ reverse xs
from_back old xs x e = ap reverse (sym e) ∙ reverse-append xs (x ∷ [])
