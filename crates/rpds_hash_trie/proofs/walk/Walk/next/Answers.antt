use Rattle.std.proofs.lemmas.Grind.{common_steps}
use Rattle.std.proofs.Common.{◌≡◌, [], lit<, arith, ap, length}
use Rattle.rpds_core.specs.WalkStack.{from_top}
use Rattle.rpds_hash_trie.specs.Places.{behind}
use Rattle.rpds_hash_trie.specs.HashWalk.{flatten, given}
use Rattle.rpds_hash_trie.proofs.OpenNodes.{open_branch}
use Rattle.rpds_hash_trie.proofs.WalkRows.{AreNext, are_next, rest_fits, entered}
use Rattle.rpds_hash_trie.proofs.walk.Walk.next.Given.{Over}
use Rattle.rpds_hash_trie.proofs.walk.Walk.next.Goals as goal
use Rattle.rpds_hash_trie.proofs.walk.Walk.next.Goals.{After-as_slice-row}

next : (g : Over) (c : After-as_slice-row g) → AreNext c.loop-node.row.now c.as_slice-row.result.now c.in-Some-split_first.rest.now
next g c =
    let rcs = c.in-Branch.children in
    are_next c.in-Some-split_first.node.now c.deref-node.result.now c.node.inside.bits c.node.inside.depth rcs c.loop-node.row.now c.as_slice-row.result.now c.in-Some-split_first.rest.now c.in-Some-split_first.ensures.cases.0 c.deref-node.ensures (open_branch rcs c.node.view_is c.in-Branch.is c.node.invariant) c.as_slice-row.ensures

pub push_row-requires : goal.push_row-requires
push_row-requires g c =
    let w = c.loop-node.invariant in
    (lit< tt, (w.room, rest_fits (length c.loop-node.self-inside.stack) w.fits c.in-Some-split_first.ensures.cases.0))

pub loop-node-smaller : goal.loop-node-smaller
loop-node-smaller g c = (next g c).fewer

pub loop-node-preserved : goal.loop-node-preserved
loop-node-preserved g c =
    let w = c.loop-node.invariant in
    let way = next g c in
    record {
      used = w.used;
      room = c.push_row.ensures.room;
      fits = way.fits (length c.loop-node.self-inside.stack) (length c.push_row.new.stack) w.fits c.push_row.ensures.more;
      rest = entered (flatten (behind c.loop-node.row.now)) (flatten (behind c.as_slice-row.result.now)) (flatten (behind c.in-Some-split_first.rest.now)) (from_top given c.push_row.new.stack) (from_top given c.loop-node.self-inside.stack) _ way.entries c.push_row.ensures.rest w.rest;
      none = (λ e. absurd {A = (c.loop-node.self-inside.row.now ≡ []) × (from_top given c.push_row.new.stack ≡ [])} (omega (arith, way.some, ap (λ r. length (behind r)) e)));
    }

pub invariant_of-self-in-Leaf : goal.invariant_of-self-in-Leaf
invariant_of-self-in-Leaf g c =
    let w = c.loop-node.invariant in
    record { room = w.room; fits = rest_fits (length c.loop-node.self-inside.stack) w.fits c.in-Some-split_first.ensures.cases.0 }

pub invariant_of-self-in-Collision : goal.invariant_of-self-in-Collision
invariant_of-self-in-Collision g c =
    let w = c.loop-node.invariant in
    record { room = w.room; fits = rest_fits (length c.loop-node.self-inside.stack) w.fits c.in-Some-split_first.ensures.cases.0 }

pub returns-in-Collision : goal.returns-in-Collision
returns-in-Collision g c = grind (arith, common_steps)
