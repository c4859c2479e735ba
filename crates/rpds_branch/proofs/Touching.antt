-- How many keys are touched, and the work at them.
use Rattle.std.proofs.Common.{◌≡◌, ◌≢◌, ◌+◌, ◌*◌, ◌<◌, ◌≤◌, ◌++◌, ℕ, Option, None, Some, Result, Ok, Err, OnOk, List, [], ◌∷◌, arith, ap, length, map, max, min, refl, sym, ◌∙◌}
use Rattle.std.proofs.Math.Nat.{add-mul, mul_comm, one-mul}
use Rattle.std.proofs.lemmas.Nat.{mul-le}
use Rattle.std.specs.List.{cons_option}
use Rattle.std.specs.Map.{keys_of}
use Rattle.std.specs.Option.{option_map}
use Rattle.rpds_core.proofs.Counts.{within_more, within_then}
use Rattle.rpds_core.specs.Counts.{IsWithin}
use Rattle.rpds_core.specs.declared.steps.Steps.{Steps}
use Rattle.rpds_red_black.proofs.Ranks.{log_grows}
use Rattle.rpds_red_black.specs.Logarithm.{most_levels}
use Rattle.rpds_tree.proofs.Members.{length_members}
use Rattle.rpds_branch.specs.Branches.{fewest_compared}

-- more pairs, and as many levels or more
pub levels_grow : (m n : ℕ) → m ≤ n → most_levels m ≤ most_levels n
levels_grow m n more = omega (arith, log_grows (m + 1) (n + 1) (omega arith) (omega (arith, more)))

-- as many keys as pairs
pub as_many : {K V : Type 0} (es : List (K × V)) {ks : List K} → keys_of es ≡ ks → length es ≡ length ks
as_many es is = sym (length_members es) ∙ ap length is

-- of a list one more is told, or none
pub told_more : {X Y : Type 0} (f : X → Y) (told : List X) (one : Option X) (rest : List Y)
    → map f (told ++ cons_option one []) ++ rest ≡ map f told ++ cons_option (option_map f one) rest
told_more f [] None rest = refl
told_more f [] (Some x) rest = refl
told_more f (t ∷ told) one rest = ap (λ l. f t ∷ l) (told_more f told one rest)

-- the work at one more key
pub one_more : (n compared made : ℕ) {a b c : Steps} → IsWithin (n * compared) (n * made) a b → IsWithin compared made b c
    → IsWithin ((n + 1) * compared) ((n + 1) * made) a c
one_more n compared made before here = within_more (within_then before here) (omega (arith, add-mul n 1 compared, one-mul compared))
    (omega (arith, add-mul n 1 made, one-mul made))

pub one_looked : (n compared : ℕ) {a b c : Steps} → IsWithin (n * compared) 0 a b → IsWithin compared 0 b c → IsWithin ((n + 1) * compared) 0 a c
one_looked n compared before here = within_more (within_then before here) (omega (arith, add-mul n 1 compared, one-mul compared)) (omega arith)

-- at least the fewest comparisons, where a key is looked up
pub looked : {K V : Type 0} (es : List (K × V)) {a b : ℕ} → a ≤ b → (es ≢ [] → a < b) → a + fewest_compared es ≤ b
looked [] least compares = omega (arith, least)
looked (e ∷ es) least compares = omega (arith, compares (λ h. cc h))

-- what follows from what a call that succeeds promises
pub then_ok : {X E : Type 0} (r : Result X E) {P Q : Type 0} → (P → Q) → OnOk r P → OnOk r Q
then_ok (Ok x) f h = f h
then_ok (Err e) f h = tt

-- a union of touched keys, of which there are t and k
pub united : (t k t' k' : ℕ) → t ≡ t' → k ≡ k' → {a b : Steps}
    → IsWithin (min t k * most_levels (max t k)) (min t k * (4 * most_levels (max t k) + 5 * most_levels (t + k) + 3)) a b
    → IsWithin (k' * most_levels (t' + k')) (k' * (9 * most_levels (t' + k') + 3)) a b
united t k t' k' is is' h =
    let low = levels_grow (max t k) (t' + k') (omega (arith, is, is')) in
    let high = levels_grow (t + k) (t' + k') (omega (arith, is, is')) in
    let few : min t k ≤ k' = omega (arith, is') in
    within_more h (mul-le (min t k) (most_levels (max t k)) k' (most_levels (t' + k')) few low)
    (mul-le (min t k) (4 * most_levels (max t k) + 5 * most_levels (t + k) + 3) k' (9 * most_levels (t' + k') + 3) few (omega (arith, low, high)))

split_at : (k a b : ℕ) → k * a + k * b ≡ k * (a + b)
split_at k a b = omega (arith, mul_comm k a, mul_comm k b, mul_comm k (a + b), add-mul a b k)

both : (n k x y z : ℕ) → n ≤ k → x + y ≤ z → n * x + k * y ≤ k * z
both n k x y z few all = omega (arith, mul-le n x k x few (omega arith), split_at k x y, mul-le k (x + y) k z (omega arith) all)

-- the lengths of what a merge looks into: ours and the touched keys, theirs before and after
pub below_most : (a t k d e : ℕ) → (a + k ≤ max (max a t + k) (max d e)) × ((t + k ≤ max (max a t + k) (max d e))
    × ((d ≤ max (max a t + k) (max d e)) × (e ≤ max (max a t + k) (max d e))))
below_most a t k d e = (omega arith, (omega arith, (omega arith, omega arith)))

-- n of k keys are merged
module _ (n k p q z w : ℕ) (few : n ≤ k) {a b : Steps} (before : IsWithin (n * p) (n * q) a b) where
  pub part_spent : p ≤ z → q ≤ w → IsWithin (k * z) (k * w) a b
  part_spent looked made = within_more before (mul-le n p k z few looked) (mul-le n q k w few made)

  -- and then the touched keys are united
  pub all_spent : (u : ℕ) → p + u ≤ z → q + (9 * u + 3) ≤ w → {c : Steps} → IsWithin (k * u) (k * (9 * u + 3)) b c → IsWithin (k * z) (k * w) a c
  all_spent u looked made after =
      within_more (within_then before after) (both n k p u z few looked) (both n k q (9 * u + 3) w few made)
