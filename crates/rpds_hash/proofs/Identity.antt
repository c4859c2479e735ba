-- What feeding a number's eight bytes makes.
use Rattle.std.proofs.Common.{◌≡◌, ℕ, ◌^◌, ◌<◌, arith, fold}
use Rattle.std.specs.Hash.{le_bytes}
use Rattle.rpds_hash.specs.Identity.{shifted_in}

pub number_kept : (state n : ℕ) → state < 2 ^ 64 → n < 2 ^ 64 → fold shifted_in state (le_bytes 8 n) ≡ n
unfolding le_bytes
number_kept state n old small = omega arith
