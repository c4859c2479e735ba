use Rattle.rpds_arena.proofs.Places.{numbered_none}
use Rattle.rpds_arena.proofs.interner.Interner+T+K+DefaultBuildHasher+A.new_tagged.Goals as goal

pub invariant_of-result : goal.invariant_of-result
invariant_of-result g c = numbered_none c.new_tagged.ensures c.new.ensures.empty
