use Rattle.rpds_vector.proofs.Words.{arith}
use Rattle.rpds_vector.proofs.WalkRows.{low_cut, low_first, low_others}
use Rattle.rpds_vector.proofs.vector.walk.leaves_below.LeavesBelow.next.Goals as goal

pub invariant_of-self : goal.invariant_of-self
invariant_of-self g c = (low_others 0 c.in-Some.leaf.now _ (low_cut 0 c.in-Some.leaf.now c.in-Some.ensures c.self.invariant.0), c.self.invariant.1)

pub invariant_of-self-in-Some-next : goal.invariant_of-self-in-Some-next
invariant_of-self-in-Some-next g c =
    let parents = low_cut 1 c.in-Some-next.parent.now c.in-Some-next.ensures c.self.invariant.1.0 in
    let leaves = c.of-leaves.ensures.low 0 (low_first 1 _ c.next-2.new.self parents) in
    (low_others 0 c.of-leaves.result.0.now _ leaves, (low_others 1 c.in-Some-next.parent.now _ parents, c.self.invariant.1.1))

pub invariant_of-self-2 : goal.invariant_of-self-2
invariant_of-self-2 g c =
    let all = low_cut 2 c.in_ok-grandparent.grandparent.now c.in_ok-grandparent.ensures c.self.invariant.1.1 in
    let parents = c.of-parents.ensures.low 1 (low_first 2 _ c.next-3.new.self all) in
    let leaves = c.of-leaves-2.ensures.low 0 (low_first 1 _ c.of-parents.result.1 parents) in (
      low_others 0 c.of-leaves-2.result.0.now _ leaves,
      (
        low_others 1 c.of-parents.result.0.now _ parents,
        low_others 2 c.in_ok-grandparent.grandparent.now _
            all,
      ),
    )

pub returns-clause-leaf : goal.returns-clause-leaf
returns-clause-leaf g c =
    let all = low_cut 2 c.in_ok-grandparent.grandparent.now c.in_ok-grandparent.ensures c.self.invariant.1.1 in
    let parents = c.of-parents.ensures.low 1 (low_first 2 _ c.next-3.new.self all) in
    let leaves = c.of-leaves-2.ensures.low 0 (low_first 1 _ c.of-parents.result.1 parents) in
    omega (arith, low_first 0 c.of-leaves-2.result.0.now c.of-leaves-2.result.1 leaves)
