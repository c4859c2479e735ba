use Rattle.std.proofs.Common.{[], ◌∷◌, ap, arith, length-append}
use Rattle.std.specs.Prelude.{length}
use Rattle.rpds_sequence.proofs.Shallow.{shallow_tree}
use Rattle.rpds_sequence.proofs.sequence.Sequence.push_back_mut_counted.Goals as goal

pub invariant_of-self-2 : goal.invariant_of-self-2
invariant_of-self-2 g c =
    let more = c.in_ok-insert_last.ensures in
    record {
      count = omega (arith, ap length more.pairs, length-append c.self.inside.tree.entries ((c.args.item, tt) ∷ []), c.self.invariant.count, c.in_ok-longer.ensures.sum);
      shallow = shallow_tree _ c.prove_sound.ensures more.black;
    }
