-- The digits of a hash.
use Rattle.std.proofs.Common.{◌≡◌, ℕ, suc, zero, ◌+◌, ◌-◌, ◌*◌, ◌/◌, ◌%◌, ◌^◌, ◌<◌, ◌≤◌, refl, sym, ap, ◌∙◌, subst, arith, bit_and, lit≤, lit<, mod-lt}
use Rattle.std.proofs.lemmas.Nat.{and_mask, pow-add, pow_pos}
use Rattle.std.proofs.Math.Arith.{mod-mul}
use Rattle.std.proofs.Math.Pow.{pow-lt, pow_mono}
use Rattle.std.proofs.Math.Nat.{mod-eq_of_lt, mod-one, div-div-eq-div-mul, suc-mul, zero-mul, lt_of_lt_of_le, lt_of_mul-lt-mul_right, mul-le-mul_right, pow-zero, pow-suc, pow-succ'}
use Rattle.rpds_hash_trie.specs.Digits.{digit, digits_within, digit_count, agree}
use Rattle.rpds_hash_trie.specs.HashTrie.{level_count}

-- the weight of a digit, as the program shifts by it
pub pow_is : (bits d : ℕ) → 2 ^ (d * bits) ≡ (2 ^ bits) ^ d
pow_is bits zero = ap (λ n. 2 ^ n) (zero-mul bits) ∙ sym (pow-zero (2 ^ bits))
pow_is bits (suc d) = ap (λ n. 2 ^ n) (suc-mul d bits) ∙ pow-add 2 (d * bits) bits ∙ ap (λ n. n * 2 ^ bits) (pow_is bits d) ∙ sym (pow-suc (2 ^ bits) d)

pub weight_pos : (bits d : ℕ) → 0 < (2 ^ bits) ^ d
weight_pos bits d = subst (λ n. 0 < n) (pow_is bits d) (pow_pos (d * bits))

-- the digit that the program reads
pub digit_of : (bits d h place : ℕ) → place ≡ h / 2 ^ (d * bits) % 2 ^ bits → place ≡ digit (2 ^ bits) d h
digit_of bits d h place e = e ∙ ap (λ n. h / n % 2 ^ bits) (pow_is bits d)

-- the mask of a digit as the program writes it
pub mask_is : (hash_left bits : ℕ) → bits ≤ 6 → bit_and hash_left (1 * 2 ^ bits % 2 ^ 64 - 1) ≡ hash_left % 2 ^ bits
mask_is hash_left bits b =
    let few : bits < 64 = omega arith in
    let lt : 2 ^ bits < 2 ^ 64 = pow-lt few in
    let one : 1 * 2 ^ bits ≡ 2 ^ bits = omega arith in
    rw (one, mod-eq_of_lt lt) (and_mask hash_left bits)

pub few_places : (hash_left bits : ℕ) → bits ≤ 6 → hash_left % 2 ^ bits < 64
few_places hash_left bits b = lt_of_lt_of_le (mod-lt hash_left (pow_pos bits)) (pow_mono b)

within_le : (degree n : ℕ) → digits_within degree n ≤ n
within_le degree zero = omega arith
within_le degree (suc n) = grind (arith, within_le degree n)

pub level_count_is : (bits : ℕ) → level_count bits ≡ digit_count (2 ^ bits)
unfolding level_count
level_count_is bits = refl

pub level_count_le : (bits : ℕ) → level_count bits ≤ 64
unfolding level_count
level_count_le bits = within_le (2 ^ bits) 64

-- n digits hold 64 bits, and one fewer does not
record IsCount (bits n : ℕ) : Type 0 where
  all : 64 ≤ n * bits
  last : n * bits < 64 + bits

count_is : (bits : ℕ) → 1 ≤ bits → bits ≤ 6 → IsCount bits (level_count bits)
unfolding level_count
count_is zero h l = absurd (omega arith)
count_is (suc zero) h l = record { all = lit≤ tt; last = lit< tt }
count_is (suc (suc zero)) h l = record { all = lit≤ tt; last = lit< tt }
count_is (suc (suc (suc zero))) h l = record { all = lit≤ tt; last = lit< tt }
count_is (suc (suc (suc (suc zero)))) h l = record { all = lit≤ tt; last = lit< tt }
count_is (suc (suc (suc (suc (suc zero))))) h l = record { all = lit≤ tt; last = lit< tt }
count_is (suc (suc (suc (suc (suc (suc zero)))))) h l = record { all = lit≤ tt; last = lit< tt }
count_is (suc (suc (suc (suc (suc (suc (suc b))))))) h l = absurd (omega arith)

module _ (bits d : ℕ) (l : 1 ≤ bits) (h : bits ≤ 6) where
  -- all digits are used up
  pub all_bits : d ≡ level_count bits → 64 ≤ d * bits
  all_bits e = subst (λ n. 64 ≤ n * bits) (sym e) (count_is bits l h).all

  pub not_full : d * bits < 64 → d < level_count bits
  not_full f = let all : 64 ≤ level_count bits * bits = (count_is bits l h).all in lt_of_mul-lt-mul_right bits (let lt : d * bits < level_count bits * bits = omega arith in lt)

  next_bits : suc d * bits ≡ d * bits + bits
  next_bits = suc-mul d bits

  pub full_depth : d ≤ level_count bits → 64 ≤ d * bits → d ≡ level_count bits
  full_depth e f = let below : level_count bits < suc d = lt_of_mul-lt-mul_right bits (omega (arith, next_bits, (count_is bits l h).last, f)) in omega arith

  pub shift_lt : d < level_count bits → d * bits < 64
  shift_lt lt = let next : suc d ≤ level_count bits = omega arith in omega (arith, next_bits, (count_is bits l h).last, mul-le-mul_right bits next)

pub same_hash : (bits d g h : ℕ) → 64 ≤ d * bits → g < 2 ^ 64 → h < 2 ^ 64 → agree (2 ^ bits) d g h → g ≡ h
same_hash bits d g h f lg lh a =
    let big : 2 ^ 64 ≤ (2 ^ bits) ^ d = subst (λ n. 2 ^ 64 ≤ n) (pow_is bits d) (pow_mono f) in
    let gl : g < (2 ^ bits) ^ d = lt_of_lt_of_le lg big in
    let hl : h < (2 ^ bits) ^ d = lt_of_lt_of_le lh big in
    sym (mod-eq_of_lt gl) ∙ a ∙ mod-eq_of_lt hl

pub split_up : (bits d g : ℕ) → g % (2 ^ bits) ^ suc d ≡ digit (2 ^ bits) d g * (2 ^ bits) ^ d + g % (2 ^ bits) ^ d
split_up bits d g = ap (λ n. g % n) (pow-succ' (2 ^ bits) d) ∙ mod-mul g (pow_pos bits) (weight_pos bits d)

-- one more digit
pub agree_more : (bits d g h : ℕ) → agree (2 ^ bits) d g h → digit (2 ^ bits) d g ≡ digit (2 ^ bits) d h → agree (2 ^ bits) (suc d) g h
agree_more bits d g h a e = split_up bits d g ∙ (λ i. e i * (2 ^ bits) ^ d + a i) ∙ sym (split_up bits d h)

-- nothing is asked where no digit is compared
pub agree_none : (bits g h : ℕ) → agree (2 ^ bits) 0 g h
agree_none bits g h = let z : (2 ^ bits) ^ 0 ≡ 1 = pow-zero (2 ^ bits) in ap (λ n. g % n) z ∙ mod-one g ∙ sym (mod-one h) ∙ ap (λ n. h % n) (sym z)

-- what is left of a hash, once a digit is taken off
pub hash_left_next : (bits d h hash_left : ℕ) → hash_left ≡ h / 2 ^ (d * bits) → hash_left / 2 ^ bits ≡ h / 2 ^ (suc d * bits)
hash_left_next bits d h hash_left e =
    let p : ℕ = 2 ^ (d * bits) in
    let q : ℕ = 2 ^ bits in
    let same : 2 ^ (suc d * bits) ≡ p * q = ap (λ n. 2 ^ n) (suc-mul d bits) ∙ pow-add 2 (d * bits) bits in
    rw (e, same) (div-div-eq-div-mul h p q)
