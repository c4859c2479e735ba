use Rattle.rpds_red_black.proofs.Words.{rules, ◌≡◌, ap, ◌∙◌, arith, Node, is_right, painted}
use Rattle.rpds_red_black.proofs.Node.{seen, even_at, near_below, rootless}
use Rattle.rpds_red_black.proofs.Removal.{end_below, end_here}
use Rattle.rpds_red_black.proofs.tree.Tree.+remove_end.Goals as goal

pub unreachable-requires : goal.unreachable-requires
unreachable-requires g t c = rootless c.self.view_is c.in-Leaf.is c.requires

pub unreachable-unreachable : goal.unreachable-unreachable
unreachable-unreachable g t c = c.unreachable.result

pub remove_end-requires : goal.remove_end-requires
remove_end-requires g t c κs within =
    let n = c.in-Branch.node.value in
    let is = seen c.self.view_is c.in-Branch.is in
    let below = near_below (is_right c.args.side) c.in-Branch.color c.args.self.now n is in
    let some = c.is_leaf.ensures.no c.if-is_leaf.false in
    (rw (c.near-near.ensures, c.deref-node.ensures) (omega (arith, below, c.decreases)), (within.0, (within.1.0, (within.1.1, some))))

pub far_remains-requires-clause-even : goal.far_remains-requires-clause-even
far_remains-requires-clause-even g t c = rw c.deref-node.ensures (even_at c.self.invariant c.in-Branch.is)

pub far_remains-requires-clause-empty : goal.far_remains-requires-clause-empty
far_remains-requires-clause-empty g t c = rw c.near-near.ensures at (c.is_leaf.ensures.yes c.if-is_leaf.true)

pub returns-then-is_leaf-clause-ok : goal.returns-then-is_leaf-clause-ok
returns-then-is_leaf-clause-ok g t c =
    let n = c.in-Branch.node.value in
    let is = seen c.self.view_is c.in-Branch.is in
    let empty = rw (c.near-near.ensures, c.deref-node.ensures) at (c.is_leaf.ensures.yes c.if-is_leaf.true) in
    let made = rw c.deref-node.ensures at c.far_remains.ensures.ok in
    rw is (end_here (is_right c.args.side) (painted c.in-Branch.color n) c.far_remains.new.loss empty c.far_remains.result made)

pub over_remains-requires-clause-even : goal.over_remains-requires-clause-even
over_remains-requires-clause-even g t c = rw c.deref-node.ensures (even_at c.self.invariant c.in-Branch.is)

pub over_remains-requires-clause-taken : goal.over_remains-requires-clause-taken
over_remains-requires-clause-taken g t c = c.in_ok-below-in-Branch.ensures.ok.taken

pub over_remains-requires-clause-lowered : goal.over_remains-requires-clause-lowered
over_remains-requires-clause-lowered g t c = rw c.near-near.ensures at c.in_ok-below-in-Branch.ensures.ok.lowered

pub returns-clause-ok : goal.returns-clause-ok
returns-clause-ok g t c =
    let n = c.in-Branch.node.value in
    let is = seen c.self.view_is c.in-Branch.is in
    let same : c.in_ok-entry-in-Branch.entry.value ≡ c.deref-node.result.now.entry.value = search rules in
    let below = rw (c.near-near.ensures, c.deref-node.ensures) at c.in_ok-below-in-Branch.ensures.ok in
    let made = rw c.deref-node.ensures at c.over_remains.ensures.ok in
    rw is (end_below (is_right c.args.side) (painted c.in-Branch.color n) c.remove_end.new.loss c.in_ok-below-in-Branch.below c.in_ok-entry-in-Branch.entry
    c.over_remains.new.loss below (same ∙ ap (λ (m : Node _ _ _). m.entry.value) c.deref-node.ensures) c.over_remains.result made)
