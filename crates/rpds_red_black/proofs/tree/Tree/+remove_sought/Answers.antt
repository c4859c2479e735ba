use Rattle.rpds_red_black.proofs.Words.{false, true, arith, painted}
use Rattle.rpds_red_black.proofs.Node.{seen, even_at, near_below}
use Rattle.rpds_red_black.proofs.Placing.{without_here, without_left, without_right}
use Rattle.rpds_red_black.proofs.tree.Tree.+remove_sought.Goals as goal

pub aim-aim-requires : goal.aim-aim-requires
aim-aim-requires g t c =
    let is = seen c.self.view_is c.in-Branch.is in
    rw c.deref-node.ensures (rw is at c.requires)

pub remove_own-requires : goal.remove_own-requires
remove_own-requires g t c = rw c.deref-node.ensures (even_at c.self.invariant c.in-Branch.is)

pub returns-in-Here-clause-ok : goal.returns-in-Here-clause-ok
returns-in-Here-clause-ok g t c =
    let n = c.in-Branch.node.value in
    let is = seen c.self.view_is c.in-Branch.is in
    let told = rw (c.deref-node.ensures, c.in-Here.is) at c.aim-aim.ensures.aim in
    let made = rw c.deref-node.ensures at c.remove_own.ensures.ok in
    rw is (without_here g.S.Seek.ready g.S.Seek.looks c.args.sought (painted c.in-Branch.color n) c.remove_own.new.loss told c.remove_own.result made)

pub remove_sought-requires : goal.remove_sought-requires
remove_sought-requires g t c κs within =
    let n = c.in-Branch.node.value in
    let is = seen c.self.view_is c.in-Branch.is in
    let below = near_below false c.in-Branch.color c.args.self.now n is in
    let told = rw (c.deref-node.ensures, c.in-Left.is) at c.aim-aim.ensures.aim in
    (rw c.deref-node.ensures (omega (arith, below, c.decreases)), (within.0, (within.1.0, (within.1.1.0, (within.1.1.1, rw c.deref-node.ensures told.0)))))

pub remove_near-requires-clause-even : goal.remove_near-requires-clause-even
remove_near-requires-clause-even g t c = rw c.deref-node.ensures (even_at c.self.invariant c.in-Branch.is)

pub remove_near-requires-clause-lowered : goal.remove_near-requires-clause-lowered
remove_near-requires-clause-lowered g t c = c.in_ok-left-in-Left.ensures.ok.lowered

pub returns-in_ok-left-in-Left-clause-ok : goal.returns-in_ok-left-in-Left-clause-ok
returns-in_ok-left-in-Left-clause-ok g t c =
    let n = c.in-Branch.node.value in
    let is = seen c.self.view_is c.in-Branch.is in
    let told = rw (c.deref-node.ensures, c.in-Left.is) at c.aim-aim.ensures.aim in
    let below = rw c.deref-node.ensures at c.in_ok-left-in-Left.ensures.ok in
    let made = rw c.deref-node.ensures at c.remove_near.ensures.ok in
    rw is (without_left g.S.Seek.ready g.S.Seek.looks c.args.sought (painted c.in-Branch.color n) _ told c.remove_sought.new.loss c.in_ok-left-in-Left.left c.remove_near.new.loss below c.remove_near.result made)

pub remove_sought-requires-in-Right : goal.remove_sought-requires-in-Right
remove_sought-requires-in-Right g t c κs within =
    let n = c.in-Branch.node.value in
    let is = seen c.self.view_is c.in-Branch.is in
    let below = near_below true c.in-Branch.color c.args.self.now n is in
    let told = rw (c.deref-node.ensures, c.in-Right.is) at c.aim-aim.ensures.aim in
    (rw c.deref-node.ensures (omega (arith, below, c.decreases)), (within.0, (within.1.0, (within.1.1.0, (within.1.1.1, rw c.deref-node.ensures told.0)))))

pub remove_near-requires-in-Right-clause-even : goal.remove_near-requires-in-Right-clause-even
remove_near-requires-in-Right-clause-even g t c = rw c.deref-node.ensures (even_at c.self.invariant c.in-Branch.is)

pub remove_near-requires-in-Right-clause-lowered : goal.remove_near-requires-in-Right-clause-lowered
remove_near-requires-in-Right-clause-lowered g t c = c.in_ok-right-in-Right.ensures.ok.lowered

pub returns-in_ok-right-in-Right-clause-ok : goal.returns-in_ok-right-in-Right-clause-ok
returns-in_ok-right-in-Right-clause-ok g t c =
    let n = c.in-Branch.node.value in
    let is = seen c.self.view_is c.in-Branch.is in
    let told = rw (c.deref-node.ensures, c.in-Right.is) at c.aim-aim.ensures.aim in
    let below = rw c.deref-node.ensures at c.in_ok-right-in-Right.ensures.ok in
    let made = rw c.deref-node.ensures at c.remove_near-in-Right.ensures.ok in
    rw is (without_right g.S.Seek.ready g.S.Seek.looks c.args.sought (painted c.in-Branch.color n) _ told c.remove_sought-in-Right.new.loss c.in_ok-right-in-Right.right c.remove_near-in-Right.new.loss below c.remove_near-in-Right.result made)
