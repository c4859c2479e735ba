use Rattle.std.proofs.Common.{sym}
use Rattle.std.proofs.Math.Nat.{div-eq_of_lt, lt_of_lt_of_le}
use Rattle.std.proofs.Math.Pow.{pow_mono}
use Rattle.rpds_hash_trie.proofs.union.left_at.Goals as goal

pub returns-then-shift-ge64 : goal.returns-then-shift-ge64
returns-then-shift-ge64 c = sym (div-eq_of_lt (lt_of_lt_of_le c.ranges.hash.fits (pow_mono c.if-shift-ge64.true)))
