use Rattle.std.proofs.Common.{arith}
use Rattle.std.proofs.lemmas.Fn.{always_returns_same}
use Rattle.rpds_sequence.specs.Contents.{less_or_greater}
use Rattle.rpds_sequence.proofs.Searches.{no_equal, partition_at}
use Rattle.rpds_sequence.proofs.sequence.Sequence.partition_point.Goals as goal

pub returns-in-Ok-clause-bound : goal.returns-in-Ok-clause-bound
returns-in-Ok-clause-bound g c = omega (arith, c.in-Ok.ensures.bound)

pub returns-in-Ok-clause-partitioned : goal.returns-in-Ok-clause-partitioned
returns-in-Ok-clause-partitioned g c = λ p by parts.
    let h = c.in-Ok.ensures.position (λ y. less_or_greater (p y)) (always_returns_same _ _ _ (λ a r f' k. (k.met.1 p by, λ j. record { 0 = k.met.0 j }))) in
    absurd (no_equal p c.args.self.now c.in-Ok.index c.in-Ok.ensures.bound h)

pub returns-clause-bound : goal.returns-clause-bound
returns-clause-bound g c = c.in-Err.ensures.bound

pub returns-clause-partitioned : goal.returns-clause-partitioned
returns-clause-partitioned g c = λ p by parts.
    let h = c.in-Err.ensures.position (λ y. less_or_greater (p y)) (always_returns_same _ _ _ (λ a r f' k. (k.met.1 p by, λ j. record { 0 = k.met.0 j }))) in
    partition_at p c.args.self.now c.in-Err.index h parts
