-- The hasher of tests that keeps the last eight bytes.
use Rattle.std.specs.Prelude.{ℕ, ◌+◌, ◌*◌, ◌/◌, ◌^◌}

-- the state after a byte
abbrev pub shifted_in : ℕ → ℕ → ℕ
shifted_in state byte = state / 2 ^ 8 + byte * 2 ^ 56
