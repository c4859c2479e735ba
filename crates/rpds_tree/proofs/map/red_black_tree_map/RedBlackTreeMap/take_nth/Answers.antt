use Rattle.std.proofs.lemmas.List.Edits.{length-remove}
use Rattle.rpds_tree.proofs.Words.{◌<◌, ap, length, arith}
use Rattle.rpds_tree.proofs.Chosen.{ascending_removed}
use Rattle.rpds_tree.proofs.Shallow.{shallow_tree}
use Rattle.rpds_tree.proofs.map.red_black_tree_map.RedBlackTreeMap.take_nth.Goals as goal

pub take_at-requires-clause-within : goal.take_at-requires-clause-within
take_at-requires-clause-within g c =
    let within : c.args.position < length c.self.inside.tree.entries = rw (← c.self.view_is) at c.requires in
    omega (arith, c.self.invariant.1, within)

pub invariant_of-self-2 : goal.invariant_of-self-2
invariant_of-self-2 g c =
    let ok = c.in_ok-take_at.ensures in
    let within : c.args.position < length c.self.inside.tree.entries = rw (← c.self.view_is) at c.requires in (
      record {
        ascending = rw ok.pairs (ascending_removed g.K.Ord.cmp c.args.position c.self.inside.tree.entries c.self.invariant.0.ascending);
        shallow = shallow_tree _ c.prove_sound.ensures ok.black;
        deep = c.prove_sound.ensures.held;
      },
      omega (arith, c.self.invariant.1, ap length ok.pairs, length-remove c.self.inside.tree.entries c.args.position within),
    )

pub returns-clause-depth : goal.returns-clause-depth
returns-clause-depth g c = shallow_tree _ c.prove_sound.ensures c.in_ok-take_at.ensures.black
