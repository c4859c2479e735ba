use Rattle.rpds_red_black.proofs.Words.{◌≡◌, false, true, refl, inr, arith, common_steps, Less, Equal, Greater, within_same, false≢true}
use Rattle.rpds_red_black.proofs.Node.{counted_at}
use Rattle.rpds_red_black.proofs.OpenNodes.{opened}
use Rattle.rpds_red_black.proofs.Look.{tied_of, below_of, above_of}
use Rattle.rpds_red_black.proofs.LendCounts.{within_level, within_here}
use Rattle.rpds_red_black.proofs.LendSides.{IsEntered, entry_same, here_found, here_lent, side_ready, side_lower, side_told, side_lent, side_kept, whole_lent, whole_kept}
use Rattle.rpds_red_black.proofs.lend.LevelLevelsTreeByKey.descend.Given.{Over}
use Rattle.rpds_red_black.proofs.lend.LevelLevelsTreeByKey.descend.Goals as goal
use Rattle.rpds_red_black.proofs.lend.LevelLevelsTreeByKey.descend.Goals.{In_ok-node-in-Branch}

-- the root, made the tree's own
root : (g : Over) (c : In_ok-node-in-Branch g)
    → IsEntered g.K.Ord.cmp c.args.tree.now c.in-Branch.field-0 c.in-Branch.field-1 c.in_ok-node-in-Branch.node.now c.make_unique.follows.lender
root g c = record {
  total = g.met.K.Ord.total;
  ascending = c.requires.ready.ascending;
  opened = opened c.tree.view_is c.in-Branch.is c.tree.invariant (rw c.in-Branch.is at c.in_ok-node-in-Branch.ensures.value);
  size = counted_at c.tree.view_is c.in-Branch.is c.tree.invariant;
  ends = λ m. c.make_unique.follows.holds m (rw c.in_ok-node-in-Branch.was refl);
}

pub lend-requires-clause-ready : goal.lend-requires-clause-ready
lend-requires-clause-ready g c = side_ready (root g (goal.at.lend-requires-clause-ready g c).In_ok-node-in-Branch) false c.requires.ready

pub invariant_of-tree-lent-then-is_lt : goal.invariant_of-tree-lent-then-is_lt
invariant_of-tree-lent-then-is_lt g c =
    let a = root g (goal.at.invariant_of-tree-lent-then-is_lt g c).In_ok-node-in-Branch in
    rw c.in-Branch.is (λ r. (λ w. whole_lent a false _ w (c.lend.follows.holds w).1, whole_kept a false c.lend.follows.holds-at-none))

pub returns-then-is_lt : goal.returns-then-is_lt
returns-then-is_lt g c =
    let a = root g (goal.at.returns-then-is_lt g c).In_ok-node-in-Branch in
    let less : g.Q.OrdKey.order (g.Q.OrdKey.seen c.args.descent.now.key) c.in_ok-node-in-Branch.node.now.entry.value.key ≡ Less = below_of _ cc in
    rw c.in-Branch.is (
      (refl, λ w. side_lent a (g.met.Q.OrdKey.searches c.args.descent.now.key) false less w (c.lend.follows.holds w), side_kept a false c.lend.follows.holds-at-none),
      record {
        writes_back = tt;
        returned = side_told a (g.met.Q.OrdKey.searches c.args.descent.now.key) false less _ c.lend.ensures.returned;
        steps = within_level c.make_unique.ensures.made c.compare_form-order.ensures.compared c.lend.ensures.steps (side_lower a false);
      },
    )

pub lend-requires-else-is_lt-clause-ready : goal.lend-requires-else-is_lt-clause-ready
lend-requires-else-is_lt-clause-ready g c = side_ready (root g (goal.at.lend-requires-else-is_lt-clause-ready g c).In_ok-node-in-Branch) true c.requires.ready

pub invariant_of-tree-lent-else-is_lt : goal.invariant_of-tree-lent-else-is_lt
invariant_of-tree-lent-else-is_lt g c =
    let a = root g (goal.at.invariant_of-tree-lent-else-is_lt g c).In_ok-node-in-Branch in
    rw c.in-Branch.is (λ r. (λ w. whole_lent a true _ w (c.lend-else-is_lt.follows.holds w).1, whole_kept a true c.lend-else-is_lt.follows.holds-at-none))

pub returns-else-is_lt : goal.returns-else-is_lt
returns-else-is_lt g c =
    let a = root g (goal.at.returns-else-is_lt g c).In_ok-node-in-Branch in
    let greater : g.Q.OrdKey.order (g.Q.OrdKey.seen c.args.descent.now.key) c.in_ok-node-in-Branch.node.now.entry.value.key ≡ Greater = above_of _ (cc) (cc) in
    rw c.in-Branch.is (
      (refl, λ w. side_lent a (g.met.Q.OrdKey.searches c.args.descent.now.key) true greater w (c.lend-else-is_lt.follows.holds w), side_kept a true c.lend-else-is_lt.follows.holds-at-none),
      record {
        writes_back = tt;
        returned = side_told a (g.met.Q.OrdKey.searches c.args.descent.now.key) true greater _ c.lend-else-is_lt.ensures.returned;
        steps = within_level c.make_unique.ensures.made c.compare_form-order.ensures.compared c.lend-else-is_lt.ensures.steps (side_lower a true);
      },
    )

pub returns-in-Leaf : goal.returns-in-Leaf
returns-in-Leaf g c =
    let e = rw c.in-Leaf.is at c.tree.view_is in
    rw c.in-Leaf.is ((refl, λ w. (λ ok. absurd (false≢true ok), inr e), e), record { writes_back = tt; returned = rw (← e) refl; steps = within_same _ _ _ })

pub returns-then-is_eq : goal.returns-then-is_eq
returns-then-is_eq g c =
    let e = c.in_ok-entry-in-Branch.entry.now in
    let a = root g (goal.at.returns-then-is_eq g c).In_ok-node-in-Branch in
    let tied : g.Q.OrdKey.order (g.Q.OrdKey.seen c.args.descent.now.key) c.in_ok-node-in-Branch.node.now.entry.value.key ≡ Equal = tied_of _ cc in
    let same = entry_same c.in_ok-node-in-Branch.node.now.entry.value e c.requires.ready c.in_ok-entry-in-Branch.ensures.value in
    rw c.in-Branch.is (
      (refl, here_lent a (g.met.Q.OrdKey.searches c.args.descent.now.key) tied e same c.own.follows.lender (λ x. c.own.follows.holds x (rw c.in_ok-entry-in-Branch.was refl)), refl),
      record {
        writes_back = tt;
        returned = here_found a (g.met.Q.OrdKey.searches c.args.descent.now.key) tied e same;
        steps = within_here c.make_unique.ensures.made c.compare_form-order.ensures.compared (side_lower a false);
      },
    )

pub invariant_of-tree-in_err-node-in-Branch : goal.invariant_of-tree-in_err-node-in-Branch
invariant_of-tree-in_err-node-in-Branch g c = grind (arith, common_steps)

pub invariant_of-tree-in_err-entry-in-Branch : goal.invariant_of-tree-in_err-entry-in-Branch
invariant_of-tree-in_err-entry-in-Branch g c = grind (arith, common_steps)

pub invariant_of-tree-lent : goal.invariant_of-tree-lent
invariant_of-tree-lent g c = grind (arith, common_steps)
