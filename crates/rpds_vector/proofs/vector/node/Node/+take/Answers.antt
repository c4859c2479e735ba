use Rattle.rpds_vector.proofs.Words.{arith}
use Rattle.rpds_vector.proofs.Places.{in_branch, in_leaf, child_inside, child_there, in_child}
use Rattle.rpds_vector.proofs.Descent.{item_inside}
use Rattle.rpds_vector.proofs.Takes.{branch_take, leaf_take}
use Rattle.rpds_vector.proofs.vector.node.Node.+take.Goals as goal

pub index-requires : goal.index-requires
index-requires g t c =
    let a = in_branch c.args.index c.args.height c.self.view_is c.in-Branch.is c.self.invariant c.requires.level c.bucket-place.ensures in
    omega (arith, child_inside a c.requires.there, c.in-Branch.children.ok.0)

pub take-requires : goal.take-requires
take-requires g t c κs within =
    let a = in_branch c.args.index c.args.height c.self.view_is c.in-Branch.is c.self.invariant c.requires.level c.bucket-place.ensures in
    let k = child_there a c.requires.there c.index.ensures in
    rw c.deref.ensures (omega (arith, k.falls, c.decreases), (within.0, (within.1, in_child a c.requires.there c.index.ensures c.requires.shift)))

pub with_first_and-requires : goal.with_first_and-requires
with_first_and-requires g t c =
    let a = in_branch c.args.index c.args.height c.self.view_is c.in-Branch.is c.self.invariant c.requires.level c.bucket-place.ensures in
    omega (arith, child_inside a c.requires.there)

pub new-requires-in-Branch : goal.new-requires-in-Branch
new-requires-in-Branch g t c =
    let a = in_branch c.args.index c.args.height c.self.view_is c.in-Branch.is c.self.invariant c.requires.level c.bucket-place.ensures in
    rw (c.in_ok-kept-in-Branch.ensures, c.deref-in-Branch.ensures.value) (branch_take a c.requires.there c.index.ensures _ (rw c.deref.ensures at c.in_ok-last-in-Branch.ensures)).sound

pub returns-in_ok-kept-in-Branch : goal.returns-in_ok-kept-in-Branch
returns-in_ok-kept-in-Branch g t c =
    let a = in_branch c.args.index c.args.height c.self.view_is c.in-Branch.is c.self.invariant c.requires.level c.bucket-place.ensures in
    let new = branch_take a c.requires.there c.index.ensures _ (rw c.deref.ensures at c.in_ok-last-in-Branch.ensures) in
    rw (c.in_ok-kept-in-Branch.ensures, c.deref-in-Branch.ensures.value, new.is) at c.new-in-Branch.ensures.ok

pub with_first-requires : goal.with_first-requires
with_first-requires g t c =
    let a = in_leaf c.args.index c.args.height c.self.view_is c.in-Leaf.is c.self.invariant c.requires.level c.requires.there c.bucket-place-in-Leaf.ensures in
    omega (arith, item_inside a)

pub returns-in_ok-kept-in-Leaf : goal.returns-in_ok-kept-in-Leaf
returns-in_ok-kept-in-Leaf g t c =
    let a = in_leaf c.args.index c.args.height c.self.view_is c.in-Leaf.is c.self.invariant c.requires.level c.requires.there c.bucket-place-in-Leaf.ensures in
    rw (c.in_ok-kept-in-Leaf.ensures, c.deref-in-Leaf.ensures.value, (leaf_take a).is) at c.new-in-Leaf-2.ensures.ok
