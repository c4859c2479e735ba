-- What the logarithm is.
use Rattle.std.proofs.lemmas.Bool.Decides.{nat_tests}
use Rattle.rpds_red_black.specs.Logarithm.{halvings}
use Rattle.rpds_red_black.proofs.Words.{ℕ, zero, suc, ◌/◌, ◌^◌, ◌<◌, ◌≤◌, arith, pow-succ', suc_ones, floor_log2}

power_le_halvings : (most n b : ℕ) → n ≤ most → 2 ^ b ≤ n → b ≤ halvings most n
power_le_halvings zero n b h p = absurd (omega (arith, suc_ones b))
power_le_halvings (suc most) n zero h p = omega arith
power_le_halvings (suc most) n (suc b) h p = grind (arith, nat_tests, power_le_halvings most (n / 2) b, pow-succ' 2 b, suc_ones b)

halvings_power : (most n : ℕ) → n ≤ most → 0 < n → (2 ^ halvings most n ≤ n) × (n < 2 ^ suc (halvings most n))
halvings_power zero n h p = absurd (omega arith)
halvings_power (suc most) n h p = grind (arith, nat_tests, halvings_power most (n / 2), pow-succ' 2 (halvings most (n / 2)), pow-succ' 2 (suc (halvings most (n / 2))))

-- each power of two that is at most n has an exponent that is at most the logarithm
pub power_le_log : (n b : ℕ) → 2 ^ b ≤ n → b ≤ floor_log2 n
unfolding floor_log2
power_le_log n b p = power_le_halvings n n b (omega arith) p

-- the logarithm is the greatest such exponent
pub log_power : (n : ℕ) → 0 < n → (2 ^ floor_log2 n ≤ n) × (n < 2 ^ suc (floor_log2 n))
unfolding floor_log2
log_power n p = halvings_power n n (omega arith) p
