use Rattle.rpds_vector.proofs.Words.{arith}
use Rattle.rpds_vector.proofs.WalkRows.{low_first, low_others, rows_below}
use Rattle.rpds_vector.proofs.vector.walk.leaves_below.LeavesBelow.of.Goals as goal

pub invariant_of-others : goal.invariant_of-others
invariant_of-others g c =
    let all = c.of-grandparents.ensures.low 2 c.requires in
    let parents = c.of-parents.ensures.low 1 (low_first 2 _ c.of-grandparents.result.1 all) in
    let leaves = c.of-leaves.ensures.low 0 (low_first 1 _ c.of-parents.result.1 parents) in
    (low_others 0 c.of-leaves.result.0.now _ leaves, (low_others 1 c.of-parents.result.0.now _ parents, low_others 2 c.of-grandparents.result.0.now _ all))

pub returns-clause-items : goal.returns-clause-items
returns-clause-items g c = rows_below _ _ _ _ _ _ _ c.of-leaves.ensures.items c.of-parents.ensures.items c.of-grandparents.ensures.items

pub returns-clause-leaf : goal.returns-clause-leaf
returns-clause-leaf g c =
    let all = c.of-grandparents.ensures.low 2 c.requires in
    let parents = c.of-parents.ensures.low 1 (low_first 2 _ c.of-grandparents.result.1 all) in
    let leaves = c.of-leaves.ensures.low 0 (low_first 1 _ c.of-parents.result.1 parents) in
    omega (arith, low_first 0 c.of-leaves.result.0.now c.of-leaves.result.1 leaves)
