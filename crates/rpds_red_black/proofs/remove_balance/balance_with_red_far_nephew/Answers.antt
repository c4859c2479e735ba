use Rattle.rpds_red_black.proofs.Words.{rules, ◌≡◌, refl, painted, Black, is_right}
use Rattle.rpds_red_black.proofs.RemoveBalance.{balanced_far, even_far}
use Rattle.rpds_red_black.proofs.remove_balance.balance_with_red_far_nephew.Goals as goal

pub of_parts-requires-2 : goal.of_parts-requires-2
of_parts-requires-2 g c =
    let s = painted Black c.args.sibling.now in
    let low = rw (c.in_ok-beside.ensures, c.near.ensures) at c.in_ok-low.ensures.ok in
    let dark = rw c.far.ensures at c.in_ok-high.ensures in
    even_far (is_right c.args.side) c.args.color c.args.near c.args.entry s c.requires.even refl c.requires.lower c.in_ok-low.low c.in_ok-high.high low dark
    c.in_ok-above.above

pub returns-clause-ok : goal.returns-clause-ok
returns-clause-ok g c =
    let s = painted Black c.args.sibling.now in
    let same : c.in_ok-above.above.value ≡ s.entry.value = search rules in
    let low = rw (c.in_ok-beside.ensures, c.near.ensures) at c.in_ok-low.ensures.ok in
    let dark = rw c.far.ensures at c.in_ok-high.ensures in
    balanced_far (is_right c.args.side) c.args.color c.args.near c.args.entry s c.requires.even refl c.requires.lower c.in_ok-low.low c.in_ok-high.high low
    dark c.in_ok-above.above same c.of_parts-2.result c.of_parts-2.ensures.ok
