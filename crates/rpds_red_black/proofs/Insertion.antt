-- An insertion at a node.
use Rattle.std.proofs.Common.{add-one}
use Rattle.std.proofs.Math.Pow.{pow_mono}
use Rattle.rpds_red_black.proofs.Words.{◌≡◌, ℕ, ◌+◌, ◌^◌, ◌<◌, ◌≤◌, max, ◌∷◌, ◌++◌, List, length, suc, arith, add-zero, length-append, pow-succ', Ordering}
use Rattle.rpds_red_black.proofs.Words.{Rc, Color, Red, Black, Node, Branch, counted, painted, pairs_of, shape_of}
use Rattle.rpds_red_black.proofs.Words.{pair_of, IsEven, IsWhole, Painted, IsAscending, Shape, branch, IsSound, MayStandOver}
use Rattle.rpds_red_black.proofs.Pairs.{around}

pub length_left : {A : Type 0} (new old : List A) (e : A) (r : List A) (k : ℕ) → length new ≡ length old + k → length (new ++ e ∷ r) ≡ length (old ++ e ∷ r) + k
length_left new old e r k h = omega (arith, length-append new (e ∷ r), length-append old (e ∷ r))

pub length_right : {A : Type 0} (l : List A) (e : A) (new old : List A) (k : ℕ) → length new ≡ length old + k → length (l ++ e ∷ new) ≡ length (l ++ e ∷ old) + k
length_right l e new old k h = omega (arith, length-append l (e ∷ new), length-append l (e ∷ old))

module _ {K V A : Type 0} (R : K → K → Ordering) (n : Painted K V A) (s : IsAscending R (shape_of n).entries) where
  pub left_ascends : IsAscending R n.left.entries
  left_ascends = (around R n.left.entries (pair_of n.entry.value) n.right.entries s).left

  pub right_ascends : IsAscending R n.right.entries
  right_ascends = (around R n.left.entries (pair_of n.entry.value) n.right.entries s).right

-- two trees and a pair are held by a tree of one level more
held_over : (l r a b : ℕ) → a < 2 ^ l → b < 2 ^ r → a + suc b < 2 ^ (max l r + 1)
held_over l r a b p q =
    let left : 2 ^ l ≤ 2 ^ max l r = pow_mono (omega arith) in
    let right : 2 ^ r ≤ 2 ^ max l r = pow_mono (omega arith) in
    let both : a + suc b < 2 ^ suc (max l r) = omega (arith, left, right, pow-succ' 2 (max l r)) in
    rw (add-one (max l r)) both

held_by : {K V : Type 0} (l r : Shape K V) (e : K × V) → IsSound l → IsSound r → length (l.entries ++ e ∷ r.entries) < 2 ^ (max l.depth r.depth + 1)
held_by l r e sl sr = rw (length-append l.entries (e ∷ r.entries)) (held_over l.depth r.depth (length l.entries) (length r.entries) sl.held sr.held)

sound_over : {K V : Type 0} (c : Color) (l r : Shape K V) (e : K × V) → l.black ≡ r.black → MayStandOver c l → MayStandOver c r → IsSound l → IsSound r → IsSound (branch c l e r)
sound_over Red l r e level over_l over_r sl sr =
    let full : 2 ^ l.black ≤ length (l.entries ++ e ∷ r.entries) + 1 = omega (arith, sl.full, length-append l.entries (e ∷ r.entries)) in
    record { short = omega (arith, level, rw over_l at sl.short, rw over_r at sr.short); full = rw (add-zero l.black) full; held = held_by l r e sl sr }
sound_over Black l r e level over_l over_r sl sr =
    let full_r = rw (← level) at sr.full in
    let full : 2 ^ suc l.black ≤ length (l.entries ++ e ∷ r.entries) + 1 = omega (arith, pow-succ' 2 l.black, sl.full, full_r, length-append l.entries (e ∷ r.entries)) in
    record { short = omega (arith, level, sl.short, sr.short); full = rw (add-one l.black) full; held = held_by l r e sl sr }

-- a tree whose root is an even node over sound trees
pub whole : {K V A : Type 0} (c : Color) (count : ℕ) (root : Rc (Node K V A) A) (n : Node K V A) → root.value ≡ n → IsEven (painted c n) → count ≡ counted (length (pairs_of n)) → IsSound n.left → IsSound n.right → IsWhole (Branch c count root)
whole c count root n is even size left right = rw is record { even = (even, size); sound = sound_over c n.left n.right (pair_of n.entry.value) even.level even.left even.right left right }
