use Rattle.rpds_tree.proofs.Words.{rules, ◌≡◌, true, length, sym, ap, ◌∙◌, arith}
use Rattle.rpds_red_black.proofs.Pairs.{ascending_others, length_of_others}
use Rattle.rpds_tree.proofs.Shallow.{shallow_tree}
use Rattle.rpds_tree.proofs.map.red_black_tree_map.RedBlackTreeMap.remove_owned.Goals as goal

pub invariant_of-self-2 : goal.invariant_of-self-2
invariant_of-self-2 g c =
    let ok = c.in_ok-take_counted.ensures in
    let yes : c.in_ok-take_counted.field-0 ≡ true = search rules in
    let fewer = length_of_others g.K.Ord.cmp g.met.K.Ord.total (g.met.Q.OrdKey.searches c.args.key) _ c.self.invariant.0.ascending (sym ok.found ∙ yes) in (
      record {
        ascending = rw ok.pairs (ascending_others g.K.Ord.cmp (g.Q.OrdKey.order (g.Q.OrdKey.seen c.args.key)) _ c.self.invariant.0.ascending);
        shallow = shallow_tree _ c.prove_sound.ensures ok.black;
        deep = c.prove_sound.ensures.held;
      },
      omega (arith, c.self.invariant.1, ap length ok.pairs, fewer),
    )

pub returns-clause-depth : goal.returns-clause-depth
returns-clause-depth g c = shallow_tree _ c.prove_sound.ensures c.in_ok-take_counted.ensures.black
