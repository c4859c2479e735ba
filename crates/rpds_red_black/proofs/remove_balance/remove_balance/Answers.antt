use Rattle.rpds_red_black.proofs.Words.{rules, refl, ap, ◌∙◌, ◌≡◌, Shape, is_right, painted, Red}
use Rattle.rpds_red_black.proofs.RemoveBalance.{even_above, rebalanced_above}
use Rattle.rpds_red_black.proofs.Take.{black_over}
use Rattle.rpds_red_black.proofs.remove_balance.remove_balance.Goals as goal

pub same-beyond : goal.same-beyond
same-beyond g c = refl

pub of_parts-requires : goal.of_parts-requires
of_parts-requires g c =
    let s = painted Red c.deref-sibling.result.now in
    let is = rw (← c.deref-sibling.ensures) at c.in-Some.ensures in
    let below = rw c.near-near_nephew.ensures at c.in_ok-below.ensures.ok in
    even_above (is_right c.args.side) c.args.near c.args.entry s is.even refl c.balance_with_black_sibling-2.new.loss c.in_ok-below.below below c.in_ok-above.above c.in_ok-beyond.beyond (c.in_ok-beyond.ensures ∙ c.far.ensures)

pub returns-clause-ok : goal.returns-clause-ok
returns-clause-ok g c =
    let s = painted Red c.deref-sibling.result.now in
    let is = rw (← c.deref-sibling.ensures) at c.in-Some.ensures in
    let same : c.in_ok-above.above.value ≡ s.entry.value = search rules in
    let below = rw c.near-near_nephew.ensures at c.in_ok-below.ensures.ok in
    rebalanced_above (is_right c.args.side) c.args.near c.args.entry s is.even refl c.balance_with_black_sibling-2.new.loss c.in_ok-below.below below c.in_ok-above.above c.in_ok-beyond.beyond (c.in_ok-beyond.ensures ∙ c.far.ensures) c.args.color c.args.far.now _ (black_over c.args.color c.args.far.now c.requires.under (ap (λ (x : Shape _ _). x.color) is.same)) is.same same refl c.of_parts.result c.of_parts.ensures.ok
