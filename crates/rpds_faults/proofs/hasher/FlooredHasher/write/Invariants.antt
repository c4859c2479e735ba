use Rattle.std.proofs.Common.{◌≡◌, take, fold}
use Rattle.rpds_faults.specs.Shifted.{shifted_in}
use Rattle.rpds_faults.proofs.hasher.FlooredHasher.write.Given as goal

abbrev pub invariant-loop-byte : goal.invariant-loop-byte
invariant-loop-byte l = l.self ≡ record l.initial.self { state = fold shifted_in l.initial.self.state (take l.byte-index l.bytes) }
