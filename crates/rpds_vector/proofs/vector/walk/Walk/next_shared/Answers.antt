use Rattle.rpds_vector.proofs.Walks.{walk_leaf, walk_on}
use Rattle.rpds_vector.proofs.vector.walk.Walk.next_shared.Goals as goal

pub returns-in-Some : goal.returns-in-Some
returns-in-Some g c =
    walk_leaf g.D.Direction.back c.args.self.now _ c.self.inside.leaf.now c.in-Some.rest.now c.in-Some.item.now c.self.view_is c.in-Some.ensures

pub returns-in-Some-split : goal.returns-in-Some-split
returns-in-Some-split g c =
    let back = g.D.Direction.back in
    let all = walk_on back c.args.self.now _ _ c.self.inside.leaf.now c.next-leaf.result.now c.self.view_is c.in_default.ensures c.next-leaf.ensures.items in
    walk_leaf back c.args.self.now _ c.next-leaf.result.now c.in-Some-split.rest.now c.in-Some-split.item.now all c.in-Some-split.ensures
