use Rattle.std.proofs.Common.{ap, arith}
use Rattle.std.proofs.lemmas.List.{length-set}
use Rattle.std.specs.Prelude.{length}
use Rattle.rpds_sequence.proofs.Shallow.{shallow_tree}
use Rattle.rpds_sequence.proofs.sequence.Sequence.set_mut_counted.Goals as goal

pub invariant_of-self-2 : goal.invariant_of-self-2
invariant_of-self-2 g c =
    let changed = c.in_ok-set_at.ensures in
    record {
      count = omega (arith, ap length changed.pairs, length-set c.self.inside.tree.entries c.args.index (c.args.item, tt), c.self.invariant.count);
      shallow = shallow_tree _ c.prove_sound.ensures changed.black;
    }
