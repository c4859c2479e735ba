use Rattle.std.proofs.Common.{ap, arith}
use Rattle.std.specs.Prelude.{length}
use Rattle.rpds_sequence.proofs.Shallow.{shallow_tree}
use Rattle.rpds_sequence.proofs.sequence.Sequence.push_front_mut_counted.Goals as goal

pub invariant_of-self-2 : goal.invariant_of-self-2
invariant_of-self-2 g c =
    let more = c.in_ok-insert_first.ensures in
    record {
      count = omega (arith, ap length more.pairs, c.self.invariant.count, c.in_ok-longer.ensures.sum);
      shallow = shallow_tree _ c.prove_sound.ensures more.black;
    }
