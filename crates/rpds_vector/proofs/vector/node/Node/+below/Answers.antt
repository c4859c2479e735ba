use Rattle.rpds_vector.proofs.Words.{ap, sym, ◌∙◌, arith, Trie}
use Rattle.rpds_vector.proofs.Places.{in_branch_by, child_inside, child_there, in_child}
use Rattle.rpds_vector.proofs.Walks.{part_below, part_itself}
use Rattle.rpds_vector.proofs.vector.node.Node.+below.Goals as goal

pub returns-then-height-lower-clause-part : goal.returns-then-height-lower-clause-part
returns-then-height-lower-clause-part g t c = part_itself c.requires.there (omega (arith, c.if-height-lower.true))

pub index-requires : goal.index-requires
index-requires g t c =
    let a = in_branch_by c.args.index c.args.height c.requires.bits c.self.view_is c.in-Branch.is c.self.invariant c.requires.there.level c.bucket-place.ensures in
    omega (arith, child_inside a c.requires.there.there, c.in-Branch.children.ok.0)

pub below-requires : goal.below-requires
below-requires g t c κs within =
    let a = in_branch_by c.args.index c.args.height c.requires.bits c.self.view_is c.in-Branch.is c.self.invariant c.requires.there.level c.bucket-place.ensures in
    let k = child_there a c.requires.there.there c.index.ensures in
    let lower = in_child a c.requires.there.there c.index.ensures c.requires.there.shift in
    rw c.deref.ensures (omega (arith, k.falls, c.decreases), (within.0, (within.1, (lower, (omega (arith, c.requires.lower, c.if-height-lower.false), c.requires.bits ∙ sym k.bits)))))

pub returns-clause-part : goal.returns-clause-part
returns-clause-part g t c =
    let a = in_branch_by c.args.index c.args.height c.requires.bits c.self.view_is c.in-Branch.is c.self.invariant c.requires.there.level c.bucket-place.ensures in
    part_below a c.requires.there.there c.index.ensures c.deref.result.now c.deref.ensures _ _ c.below.ensures.part

pub returns-clause-same_bits : goal.returns-clause-same_bits
returns-clause-same_bits g t c =
    let a = in_branch_by c.args.index c.args.height c.requires.bits c.self.view_is c.in-Branch.is c.self.invariant c.requires.there.level c.bucket-place.ensures in
    c.below.ensures.same_bits ∙ ap (λ (t : Trie _). t.bits) c.deref.ensures ∙ (child_there a c.requires.there.there c.index.ensures).bits
