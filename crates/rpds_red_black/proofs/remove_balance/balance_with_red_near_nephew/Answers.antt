use Rattle.rpds_red_black.proofs.Words.{rules, ◌≡◌, refl, painted, Black, is_right}
use Rattle.rpds_red_black.proofs.RemoveBalance.{balanced_near, even_near}
use Rattle.rpds_red_black.proofs.remove_balance.balance_with_red_near_nephew.Goals as goal

pub of_parts-requires-3 : goal.of_parts-requires-3
of_parts-requires-3 g c =
    let s = painted Black c.args.sibling.now in
    let low = rw (c.in_ok-beside.ensures, c.near.ensures) at c.in_ok-low.ensures.ok in
    let high = rw (c.in_ok-between.ensures, c.far.ensures, c.in_ok-beyond.ensures, c.far-2.ensures) at c.in_ok-high.ensures.ok in
    even_near (is_right c.args.side) c.args.color c.args.near c.args.entry s c.requires.even refl c.requires.lower c.args.nephew.now c.requires.nephew
    c.in_ok-low.low c.in_ok-high.high c.in_ok-own.own low high c.in_ok-above.above

pub returns-clause-ok : goal.returns-clause-ok
returns-clause-ok g c =
    let s = painted Black c.args.sibling.now in
    let q = c.args.nephew.now in
    let own : c.in_ok-own.own.value ≡ s.entry.value = search rules in
    let above : c.in_ok-above.above.value ≡ q.entry.value = search rules in
    let low = rw (c.in_ok-beside.ensures, c.near.ensures) at c.in_ok-low.ensures.ok in
    let high = rw (c.in_ok-between.ensures, c.far.ensures, c.in_ok-beyond.ensures, c.far-2.ensures) at c.in_ok-high.ensures.ok in
    balanced_near (is_right c.args.side) c.args.color c.args.near c.args.entry s c.requires.even refl c.requires.lower q c.requires.nephew c.in_ok-low.low
    c.in_ok-high.high c.in_ok-own.own low high c.in_ok-above.above own above c.of_parts-3.result c.of_parts-3.ensures.ok
