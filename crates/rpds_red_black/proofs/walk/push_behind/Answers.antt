use Rattle.rpds_red_black.proofs.Words.{◌++◌, ◌-◌, ◌+◌, ◌∷◌, false, ap, sym, ◌∙◌, arith, drop, from_top, given, length, length-append, pair_of, Shape}
use Rattle.rpds_red_black.proofs.ByPosition.{drop_right}
use Rattle.rpds_red_black.proofs.WalkStack.{shallower}
use Rattle.rpds_red_black.proofs.walk.push_behind.Goals as goal

pub loop-node-preserved : goal.loop-node-preserved
loop-node-preserved g c =
    let inv = c.loop-node.invariant in
    let n = c.in-Some.node.now in
    let e = pair_of n.entry.value in
    let gives = from_top (given false) c.loop-node.stack in
    let long = ap (λ (s : Shape _ _). length s.entries) c.in-Some.ensures in
    let parts = length-append n.left.entries (e ∷ n.right.entries) in
    let next = drop_right n.left.entries n.right.entries e c.loop-node.position (c.loop-node.position - (c.len_within-before.result + 1)) (omega (arith, c.len_within-before.ensures, c.if-position-before.false)) in
    record {
      room = inv.room;
      fits = omega (arith, inv.fits, ap (λ (s : Shape _ _). s.depth) c.in-Some.ensures, (shallower false n).far);
      size = omega (arith, inv.size, long, parts, c.len_within-before.ensures);
      within = omega (arith, inv.within, c.len_within-before.ensures, c.if-position-before.false);
      rest = ap (λ z. z ++ gives) (sym next) ∙ ap (λ (s : Shape _ _). drop c.loop-node.position s.entries ++ gives) (sym c.in-Some.ensures) ∙ inv.rest;
    }
