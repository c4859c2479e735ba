-- A walk needs no more than 128 places.
use Rattle.std.proofs.lemmas.Nat.{pow_below}
use Rattle.rpds_red_black.proofs.Words.{ℕ, ◌+◌, ◌^◌, ◌<◌, ◌≤◌, arith, floor_log2, most_levels}
use Rattle.rpds_red_black.proofs.Logarithm.{log_power}

pub log_most : (n b : ℕ) → 0 < n → n ≤ 2 ^ b → floor_log2 n ≤ b
log_most n b some few = grind (arith, pow_below b (floor_log2 n), (log_power n some).0)

pub few_levels : (n : ℕ) → n < 2 ^ 64 → most_levels n ≤ 128
few_levels n fits = omega (arith, log_most (n + 1) 64 (omega arith) (omega arith))
