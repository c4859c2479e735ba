use Rattle.std.proofs.Common.{ap, arith}
use Rattle.std.proofs.lemmas.List.Edits.{length-remove}
use Rattle.std.specs.Prelude.{length}
use Rattle.rpds_sequence.proofs.Shallow.{shallow_tree}
use Rattle.rpds_sequence.proofs.sequence.Sequence.remove_mut_counted.Goals as goal

pub invariant_of-self-2 : goal.invariant_of-self-2
invariant_of-self-2 g c =
    let fewer = c.in_ok-take_at.ensures in
    record {
      count = omega (arith, ap length fewer.pairs, length-remove c.self.inside.tree.entries c.args.index (omega (arith, c.if-index-self.false, c.self.invariant.count)), c.self.invariant.count);
      shallow = shallow_tree _ c.prove_sound.ensures fewer.black;
    }
