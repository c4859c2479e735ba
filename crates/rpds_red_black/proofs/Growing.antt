-- What is spent where a tree is walked, by the size of the other one.
use Rattle.std.proofs.Math.Nat.{mul_comm}
use Rattle.rpds_red_black.proofs.Words.{◌≡◌, ℕ, zero, suc, ◌+◌, ◌*◌, ◌^◌, ◌<◌, ◌≤◌, ap, ◌∙◌, arith, add-mul, mul-le-mul_left, one-mul, pow-succ', suc_ones}
use Rattle.rpds_red_black.proofs.Words.{within_more, within_then, IsWithin, Steps, floor_log2, most_levels}
use Rattle.rpds_red_black.proofs.Logarithm.{log_power}

power_twice : (k : ℕ) → 2 * k ≤ 2 ^ k
power_twice zero = omega arith
power_twice (suc zero) = omega (arith, pow-succ' 2 0)
power_twice (suc (suc k)) = omega (arith, power_twice (suc k), pow-succ' 2 (suc k), pow-succ' 2 k, suc_ones k)

-- twice the logarithm of n is at most n
pub log_half : (n : ℕ) → 0 < n → 2 * floor_log2 n ≤ n
log_half n some = omega (arith, power_twice (floor_log2 n), (log_power n some).0)

-- what is spent where a tree of p entries is cut at one of them
pub both_logs : (p q h : ℕ) → 2 * q ≤ p + 1 → 2 * h ≤ p → 8 * q + 10 * h ≤ 9 * p
both_logs p q h some more = omega (arith, some, more)

-- x times what is one level less, and x more
one_less : (x a b : ℕ) → a + 1 ≤ b → x * a + x ≤ x * b
one_less x a b less =
    let more : x * a + x ≡ x * (a + 1) = omega (arith, mul_comm x a, mul_comm x (a + 1), add-mul a 1 x, one-mul x) in
    omega (arith, more, mul-le-mul_left x less)

-- nine nodes for each of x at a level, and three at the end
made_less : (x r s : ℕ) → r + 1 ≤ s → x * (9 * r + 3) + 9 * x ≤ x * (9 * s + 3)
made_less x r s less =
    let more : x * (9 * r + 3) + 9 * x ≡ x * (9 * r + 3 + 9) = omega (arith, mul_comm x (9 * r + 3), mul_comm x (9 * r + 3 + 9), add-mul (9 * r + 3) 9 x) in
    let bigger : x * (9 * r + 3 + 9) ≤ x * (9 * s + 3) = mul-le-mul_left x (omega (arith, less)) in
    omega (arith, more, bigger)

parts : (a f b x : ℕ) → (a + (f + b)) * x ≡ a * x + (f * x + b * x)
parts a f b x = add-mul a (f + b) x ∙ ap (λ z. a * x + z) (add-mul f b x)

-- a node of rank r over sides of the ranks rl and rr, of d levels, and p entries, pl of them before the node's key, f at it, and pr
-- after it
module _ (p pl f pr : ℕ) (is : p ≡ pl + (f + pr)) (d dl dr : ℕ) (deep_left : dl + 1 ≤ d) (deep_right : dr + 1 ≤ d) (r rl rr : ℕ) (under_left : rl + 1 ≤ r)
    (under_right : rr + 1 ≤ r) where
  all_compared : p * d ≡ pl * d + (f * d + pr * d)
  all_compared = ap (λ z. z * d) is ∙ parts pl f pr d

  all_made : p * (9 * r + 3) ≡ pl * (9 * r + 3) + (f * (9 * r + 3) + pr * (9 * r + 3))
  all_made = ap (λ z. z * (9 * r + 3)) is ∙ parts pl f pr (9 * r + 3)

  module _ (some : 1 ≤ p) (s : ℕ) (few : s ≤ 9 * p) {a b : Steps} (split : IsWithin p s a b) where
    -- each entry is compared once at this level
    own_compared : p ≤ p * d
    own_compared = omega (arith, one_less p 0 d (omega (arith, deep_left)))

    own_made : 9 * p ≤ p * (9 * r + 3)
    own_made = omega (arith, made_less p 0 r (omega (arith, under_left)))

    pub grown_split : IsWithin (p * d) (p * (9 * r + 3)) a b
    grown_split = within_more split own_compared (omega (arith, own_made, few))

    module _ {c : Steps} (left : IsWithin (pl * dl) (pl * (9 * rl + 3)) b c) where
      at_key : f ≤ f * d
      at_key = omega (arith, one_less f 0 d (omega (arith, deep_left)))

      made_at_key : 9 * f ≤ f * (9 * r + 3)
      made_at_key = omega (arith, made_less f 0 r (omega (arith, under_left)))

      compared_right : pr ≤ pr * d
      compared_right = omega (arith, one_less pr 0 d (omega (arith, deep_left)))

      made_right : 9 * pr ≤ pr * (9 * r + 3)
      made_right = omega (arith, made_less pr 0 r (omega (arith, under_left)))

      pub grown_left : IsWithin (p * d) (p * (9 * r + 3)) a c
      grown_left = within_more (within_then split left)
          (omega (arith, is, all_compared, one_less pl dl d deep_left, at_key, compared_right))
          (omega (arith, is, all_made, made_less pl rl r under_left, few, made_at_key, made_right))

      module _ {e : Steps} (right : IsWithin (pr * dr) (pr * (9 * rr + 3)) c e) where
        pub grown_right : IsWithin (p * d) (p * (9 * r + 3)) a e
        grown_right = within_more (within_then (within_then split left) right)
            (omega (arith, is, all_compared, one_less pl dl d deep_left, at_key, one_less pr dr d deep_right))
            (omega (arith, is, all_made, made_less pl rl r under_left, few, made_at_key, made_less pr rr r under_right))

        -- no key is equal, so that the sides grew little apart
        pub grown_apart : (j : ℕ) → s + j ≤ 9 * p → {g : Steps} → IsWithin 0 j e g → IsWithin (p * d) (p * (9 * r + 3)) a g
        grown_apart j low link = within_more (within_then (within_then (within_then split left) right) link)
            (omega (arith, is, all_compared, one_less pl dl d deep_left, at_key, one_less pr dr d deep_right))
            (omega (arith, is, all_made, made_less pl rl r under_left, low, made_at_key, made_less pr rr r under_right))

        -- a key is equal, which isn't looked for any more
        pub grown_over : (j : ℕ) → f ≡ 1 → s + j + 6 ≤ 9 * r + 9 * p → {g : Steps} → IsWithin 0 j e g → IsWithin (p * d) (p * (9 * r + 3)) a g
        grown_over j one low link = within_more (within_then (within_then (within_then split left) right) link)
            (omega (arith, is, all_compared, one_less pl dl d deep_left, at_key, one_less pr dr d deep_right))
            (omega (arith, is, all_made, made_less pl rl r under_left, low, one-made one, made_less pr rr r under_right))
          where
            one-made : f ≡ 1 → f * (9 * r + 3) ≡ 9 * r + 3
            one-made one = ap (λ z. z * (9 * r + 3)) one ∙ one-mul (9 * r + 3)

-- what a cut makes of a tree of p entries
pub few_split : (p s q : ℕ) → s ≤ 4 * q → q ≤ most_levels p → 2 ≤ p → s ≤ 9 * p
few_split p s q low high many = omega (arith, low, high, many, log_half (p + 1) (omega arith))

-- a narrower bound of what is compared
pub within_compared_most : {compared made most : ℕ} {a b : Steps} → IsWithin compared made a b → b.compared ≤ a.compared + most → IsWithin most made a b
within_compared_most h few = record {
  compared_least = h.compared_least;
  compared_most = few;
  made_least = h.made_least;
  made_most = h.made_most;
  only = h.only;
}

-- a narrower bound of what is made
pub within_made_most : {compared made most : ℕ} {a b : Steps} → IsWithin compared made a b → b.made ≤ a.made + most → IsWithin compared most a b
within_made_most h few = record {
  compared_least = h.compared_least;
  compared_most = h.compared_most;
  made_least = h.made_least;
  made_most = few;
  only = h.only;
}

-- one entry is taken down one side
module _ (d below r under : ℕ) (deep : below + 1 ≤ d) (low : under + 1 ≤ r) {a b c : Steps} (own : IsWithin 1 0 a b)
    (rest : IsWithin below (9 * under + 3) b c) where
  pub one_below : IsWithin d (9 * r + 3) a c
  one_below = within_more (within_then own rest) (omega (arith, deep)) (omega (arith, low))

  pub one_linked : (apart : ℕ) → apart ≤ 1 → {e : Steps} → IsWithin 0 (2 * apart + 2) c e → IsWithin d (9 * r + 3) a e
  one_linked apart near link = within_more (within_then (within_then own rest) link) (omega (arith, deep)) (omega (arith, low, near))
