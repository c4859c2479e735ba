use Rattle.rpds_red_black.proofs.Words.{false, true, refl, inr, arith, within_made, within_more, within_same, within_then, false≢true}
use Rattle.rpds_red_black.proofs.HeldNodes.{IsHeld, side_kept, side_lower, whole_kept}
use Rattle.rpds_red_black.proofs.Node.{counted_at}
use Rattle.rpds_red_black.proofs.OpenNodes.{opened}
use Rattle.rpds_red_black.proofs.PlaceSides.{entry_kept, key_found, key_lent, lent_left, lent_right, place_size, ready_left, ready_right, told_left, told_right, whole_lent}
use Rattle.rpds_red_black.proofs.lend.PositionLevelLevelsTreeAtByPosition.descend.Given.{Over}
use Rattle.rpds_red_black.proofs.lend.PositionLevelLevelsTreeAtByPosition.descend.Goals as goal
use Rattle.rpds_red_black.proofs.lend.PositionLevelLevelsTreeAtByPosition.descend.Goals.{In_ok-node-in-Branch}

-- the root, made the tree's own
root : (g : Over) (c : In_ok-node-in-Branch g)
    → IsHeld c.args.tree.now c.in-Branch.field-0 c.in-Branch.field-1 c.in_ok-node-in-Branch.node.now c.make_unique.follows.lender
root g c = record {
  opened = opened c.tree.view_is c.in-Branch.is c.tree.invariant (rw c.in-Branch.is at c.in_ok-node-in-Branch.ensures.value);
  size = counted_at c.tree.view_is c.in-Branch.is c.tree.invariant;
  ends = λ m. c.make_unique.follows.holds m (rw c.in_ok-node-in-Branch.was refl);
}

pub aim-aim-requires-clause-size : goal.aim-aim-requires-clause-size
aim-aim-requires-clause-size g c =
    let h = root g (goal.at.aim-aim-requires-clause-size g c).In_ok-node-in-Branch in
    place_size h c.args.descent.now.key c.requires.ready.size

pub aim-aim-requires-clause-within : goal.aim-aim-requires-clause-within
aim-aim-requires-clause-within g c = omega (arith, c.requires.ready.size, c.requires.ready.there)

pub lend-requires-clause-ready : goal.lend-requires-clause-ready
lend-requires-clause-ready g c =
    let h = root g (goal.at.lend-requires-clause-ready g c).In_ok-node-in-Branch in
    ready_left h c.args.descent.now.key _ (rw c.in-Left.is at c.aim-aim.ensures) c.requires.ready

pub lend-requires-in-Right-clause-ready : goal.lend-requires-in-Right-clause-ready
lend-requires-in-Right-clause-ready g c =
    let h = root g (goal.at.lend-requires-in-Right-clause-ready g c).In_ok-node-in-Branch in
    ready_right h c.args.descent.now.key _ (rw c.in-Right.is at c.aim-aim.ensures) c.requires.ready

pub invariant_of-tree-lent-in-Left : goal.invariant_of-tree-lent-in-Left
invariant_of-tree-lent-in-Left g c =
    let h = root g (goal.at.invariant_of-tree-lent-in-Left g c).In_ok-node-in-Branch in
    rw c.in-Branch.is (λ r. (λ w. whole_lent h c.args.descent.now.key false _ w (c.lend.follows.holds w).1, whole_kept h false c.lend.follows.holds-at-none))

pub invariant_of-tree-lent-in-Right : goal.invariant_of-tree-lent-in-Right
invariant_of-tree-lent-in-Right g c =
    let h = root g (goal.at.invariant_of-tree-lent-in-Right g c).In_ok-node-in-Branch in
    rw c.in-Branch.is (λ r. (λ w. whole_lent h c.args.descent.now.key true _ w (c.lend-in-Right.follows.holds w).1, whole_kept h true c.lend-in-Right.follows.holds-at-none))

pub returns-in-Left : goal.returns-in-Left
returns-in-Left g c =
    let h = root g (goal.at.returns-in-Left g c).In_ok-node-in-Branch in
    let on = rw c.in-Left.is at c.aim-aim.ensures in
    rw c.in-Branch.is (
      (refl, λ w. lent_left h c.args.descent.now.key _ on w (c.lend.follows.holds w), side_kept h false c.lend.follows.holds-at-none),
      record {
        writes_back = tt;
        returned = told_left h c.args.descent.now.key _ on _ c.requires.fresh _ c.lend.ensures.returned;
        steps = within_more (within_then (within_made c.make_unique.ensures.made) c.lend.ensures.steps) (omega (arith, side_lower h false)) (omega (arith, side_lower h false));
      },
    )

pub returns-in-Right : goal.returns-in-Right
returns-in-Right g c =
    let h = root g (goal.at.returns-in-Right g c).In_ok-node-in-Branch in
    let on = rw c.in-Right.is at c.aim-aim.ensures in
    rw c.in-Branch.is (
      (refl, λ w. lent_right h c.args.descent.now.key _ on w (c.lend-in-Right.follows.holds w), side_kept h true c.lend-in-Right.follows.holds-at-none),
      record {
        writes_back = tt;
        returned = told_right h c.args.descent.now.key _ on _ c.requires.fresh _ c.lend-in-Right.ensures.returned;
        steps = within_more (within_then (within_made c.make_unique.ensures.made) c.lend-in-Right.ensures.steps) (omega (arith, side_lower h true)) (omega (arith, side_lower h true));
      },
    )

pub returns-in_ok-entry-in-Here : goal.returns-in_ok-entry-in-Here
returns-in_ok-entry-in-Here g c =
    let e = c.in_ok-entry-in-Here.entry.now in
    let h = root g (goal.at.returns-in_ok-entry-in-Here g c).In_ok-node-in-Branch in
    let own = rw c.in-Here.is at c.aim-aim.ensures in
    let same = entry_kept c.in_ok-node-in-Branch.node.now.entry.value e c.requires.ready c.in_ok-entry-in-Here.ensures.value in
    rw c.in-Branch.is (
      (refl, key_lent h c.args.descent.now.key own e same c.own.follows.lender (λ x. c.own.follows.holds x (rw c.in_ok-entry-in-Here.was refl)), refl),
      record {
        writes_back = tt;
        returned = key_found h c.args.descent.now.key own e same;
        steps = within_more (within_made c.make_unique.ensures.made) (omega arith) (omega (arith, side_lower h false));
      },
    )

pub returns-in-Leaf : goal.returns-in-Leaf
returns-in-Leaf g c =
    let e = rw c.in-Leaf.is at c.tree.view_is in
    rw c.in-Leaf.is ((refl, λ w. (λ ok. absurd (false≢true ok), inr e), e), record { writes_back = tt; returned = rw c.requires.fresh tt; steps = within_same _ _ _ })
