use Rattle.rpds_tree.proofs.Words.{arith, rules}
use Rattle.rpds_red_black.proofs.Pairs.{ascending_put}
use Rattle.rpds_tree.proofs.Shallow.{shallow_tree}
use Rattle.rpds_tree.proofs.map.red_black_tree_map.RedBlackTreeMap.insert_entry.Goals as goal
use Rattle.rpds_tree.proofs.map.red_black_tree_map.RedBlackTreeMap.insert_entry.Goals.{then-added, else-added}

pub invariant_of-self-2 : goal.invariant_of-self-2
invariant_of-self-2 g c =
    let ok = c.in_ok-added.ensures in (
      record {
        ascending = rw ok.pairs (ascending_put g.K.Ord.cmp g.met.K.Ord.total _ _ c.self.invariant.0.ascending);
        shallow = shallow_tree _ c.prove_sound.ensures ok.black;
        deep = c.prove_sound.ensures.held;
      },
      elim c.if-added.branch [
        | then-added w ↦ (let count = rw w.if-added.true at ok.count in omega (arith, count, w.self-is, c.self.invariant.1, c.in_ok-more.ensures.sum))
        | else-added w ↦ (let count = rw w.if-added.false at ok.count in omega (arith, count, w.self-is, c.self.invariant.1))
      ],
    )

pub returns-clause-depth : goal.returns-clause-depth
returns-clause-depth g c = shallow_tree _ c.prove_sound.ensures c.in_ok-added.ensures.black

pub returns-clause-makes : goal.returns-clause-makes
returns-clause-makes g c = c.in_ok-added.ensures.makes

pub returns-clause-compares : goal.returns-clause-compares
returns-clause-compares g c = search rules
