-- The hasher that keeps the last eight bytes.
use Rattle.std.specs.Prelude.{ℕ, ◌+◌, ◌*◌, ◌/◌, ◌^◌, fold}
use Rattle.std.specs.Hash as fed

-- the state after a byte, which comes in at the top
abbrev pub shifted_in : ℕ → ℕ → ℕ
shifted_in state byte = state / 2 ^ 8 + byte * 2 ^ 56

-- the hash of a number, whose bytes are fed to it
abbrev pub number_hash : ℕ → ℕ
number_hash number = fold (fold shifted_in) 0 (fed.u64 number)
