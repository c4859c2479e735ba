use Rattle.std.proofs.Common.{◌≡◌, take, fold}
use Rattle.rpds_hash.specs.Identity.{shifted_in}
use Rattle.rpds_hash.proofs.identity_build.IdentityHasher.write.Given as goal

abbrev pub invariant-loop-byte : goal.invariant-loop-byte
invariant-loop-byte l = l.self.state ≡ fold shifted_in l.initial.self.state (take l.byte-index l.bytes)
