use Rattle.rpds_red_black.proofs.Words.{◌≡◌, ◌++◌, ap, sym, ◌∙◌, append_assoc, arith, from_top, painted, shape_of, along, near_side, given}
use Rattle.rpds_red_black.proofs.WalkStack.{along_node, shallower}
use Rattle.rpds_red_black.proofs.walk.nearest.Goals as goal

pub loop-node-preserved : goal.loop-node-preserved
loop-node-preserved g c =
    let back = g.D.Direction.back in
    let n = c.loop-node.node in
    let inv = c.loop-node.invariant in
    let sides = shallower back n.now in
    let below : near_side back n.now ≡ c.near.result.now = sym c.near.ensures in
    let near : near_side back n.now ≡ shape_of (painted c.near.result.now.color c.in-Some-node.below.now) = below ∙ c.in-Some-node.ensures in
    let stacked = from_top (given back) c.loop-node.stack in
    record {
      room = rw c.push.ensures (omega (arith, inv.fits, sides.far), inv.room);
      fits = rw c.push.ensures (omega (arith, inv.fits, sides.near, ap (λ s. s.depth) near));
      rest = rw c.push.ensures (ap (λ s. along back s.entries ++ (given back n ++ stacked)) (sym near)
          ∙ sym (append_assoc (along back (near_side back n.now).entries) (given back n) stacked) ∙ ap (λ t. t ++ stacked) (sym (along_node back n.now))
          ∙ inv.rest);
    }
