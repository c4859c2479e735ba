use Rattle.rpds_vector.proofs.Words.{arith}
use Rattle.rpds_vector.proofs.Descent.{root_counted}
use Rattle.rpds_vector.proofs.Roots.{opened, index_of, root_in}
use Rattle.rpds_vector.proofs.Walks.{leaf_of_root, part_of_root}
use Rattle.rpds_vector.proofs.vector.Vector.leaf.Goals as goal

pub below-leaf-requires-clause-there : goal.below-leaf-requires-clause-there
below-leaf-requires-clause-there g c =
    let o = opened c.self.view_is c.in-Some.is c.deref-root.ensures c.self.invariant in
    let height = c.height_for.ensures in
    root_in c.height_for.result o c.prove_sound.ensures height.levels height.shift c.args.index (omega (arith, c.requires, root_counted o))

pub returns : goal.returns
returns g c =
    let o = opened c.self.view_is c.in-Some.is c.deref-root.ensures c.self.invariant in
    let n = index_of c.height_for.result o c.prove_sound.ensures c.height_for.ensures.levels c.args.index (omega (arith, c.requires, root_counted o)) in
    leaf_of_root c.args.self.now c.args.index c.items.ensures.items (part_of_root o c.args.index _ 0 n c.below-leaf.result.now.items c.below-leaf.ensures.part)
