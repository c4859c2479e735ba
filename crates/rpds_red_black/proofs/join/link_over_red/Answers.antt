use Rattle.rpds_red_black.proofs.Words.{rules, ◌≡◌, ap, ◌∙◌, Shape, is_right}
use Rattle.rpds_red_black.proofs.Joining.{even_far, even_high, even_low, even_low_black, even_red, even_turned, linked_black, linked_red, linked_turned}
use Rattle.rpds_red_black.proofs.join.link_over_red.Goals as goal

pub of_parts-requires : goal.of_parts-requires
of_parts-requires g c =
    let beside = c.in_ok-beside.ensures ∙ c.far.ensures in
    even_low (is_right c.args.side) c.args.node.now c.args.child.now c.requires.even c.requires.red c.args.near c.requires.level c.in_ok-low.low
    c.in_ok-high.high c.in_ok-beside.beside c.in_ok-far.far beside (c.has_red_root.ensures.no c.if-not-has_red_root.true)

pub of_parts-requires-then-not-has_red_root : goal.of_parts-requires-then-not-has_red_root
of_parts-requires-then-not-has_red_root g c =
    let beside = c.in_ok-beside.ensures ∙ c.far.ensures in
    let far = c.in_ok-far.ensures ∙ c.far-far.ensures in
    even_high (is_right c.args.side) c.args.node.now c.args.child.now c.requires.even c.requires.red c.args.near c.requires.level c.in_ok-low.low
    c.in_ok-high.high c.in_ok-beside.beside c.in_ok-far.far beside c.in_ok-near.near c.in_ok-near.ensures.ok far

pub returns-then-not-has_red_root-clause-ok : goal.returns-then-not-has_red_root-clause-ok
returns-then-not-has_red_root-clause-ok g c =
    let low : c.in_ok-low.low.value ≡ c.args.child.now.entry.value = search rules in
    let high : c.in_ok-high.high.value ≡ c.args.node.now.entry.value = search rules in
    let beside = c.in_ok-beside.ensures ∙ c.far.ensures in
    let far = c.in_ok-far.ensures ∙ c.far-far.ensures in
    linked_black (is_right c.args.side) c.args.node.now c.args.child.now c.requires.even c.requires.red c.args.near c.requires.level c.in_ok-low.low
    c.in_ok-high.high c.in_ok-beside.beside c.in_ok-far.far beside c.in_ok-near.near c.in_ok-near.ensures.ok far c.of_parts-then-not-has_red_root.result
    low high c.of_parts-then-not-has_red_root.ensures.ok

pub of_parts-requires-then-has_red_root : goal.of_parts-requires-then-has_red_root
of_parts-requires-then-has_red_root g c =
    let beside = c.in_ok-beside.ensures ∙ c.far.ensures in
    even_low_black (is_right c.args.side) c.args.node.now c.args.child.now c.requires.even c.requires.red c.args.near c.requires.level c.in_ok-low.low
    c.in_ok-high.high c.in_ok-beside.beside c.in_ok-far-2.far beside

pub of_parts-requires-then-has_red_root-2 : goal.of_parts-requires-then-has_red_root-2
of_parts-requires-then-has_red_root-2 g c =
    let beside = c.in_ok-beside.ensures ∙ c.far.ensures in
    let far = rw c.far-far.ensures at c.in_ok-far-2.ensures in
    even_red (is_right c.args.side) c.args.node.now c.args.child.now c.requires.even c.requires.red c.args.near c.requires.level c.in_ok-low.low
    c.in_ok-high.high c.in_ok-beside.beside c.in_ok-far-2.far beside c.in_ok-near-2.near c.in_ok-near-2.ensures.ok far

pub returns-then-has_red_root-clause-ok : goal.returns-then-has_red_root-clause-ok
returns-then-has_red_root-clause-ok g c =
    let low : c.in_ok-low.low.value ≡ c.args.child.now.entry.value = search rules in
    let high : c.in_ok-high.high.value ≡ c.args.node.now.entry.value = search rules in
    let beside = c.in_ok-beside.ensures ∙ c.far.ensures in
    let far = rw c.far-far.ensures at c.in_ok-far-2.ensures in
    linked_red (is_right c.args.side) c.args.node.now c.args.child.now c.requires.even c.requires.red c.args.near c.requires.level c.in_ok-low.low
    c.in_ok-high.high c.in_ok-beside.beside c.in_ok-far-2.far beside c.in_ok-near-2.near c.in_ok-near-2.ensures.ok far
    c.of_parts-then-has_red_root-2.result low high c.of_parts-then-has_red_root-2.ensures.ok

pub of_parts-requires-2 : goal.of_parts-requires-2
of_parts-requires-2 g c =
    let beside = c.in_ok-beside.ensures ∙ c.far.ensures in
    let far = c.in_ok-far-3.ensures ∙ c.far-far.ensures in
    let black = ap (λ (s : Shape _ _). s.color) c.in_ok-far-3.ensures ∙ c.has_red_root-2.ensures.no c.if-has_red_root.false in
    even_far (is_right c.args.side) c.args.node.now c.args.child.now c.requires.even c.requires.red c.args.near c.requires.level c.in_ok-low.low
    c.in_ok-high.high c.in_ok-beside.beside c.in_ok-far-3.far beside far black

pub of_parts-requires-3 : goal.of_parts-requires-3
of_parts-requires-3 g c =
    let beside = c.in_ok-beside.ensures ∙ c.far.ensures in
    let far = c.in_ok-far-3.ensures ∙ c.far-far.ensures in
    even_turned (is_right c.args.side) c.args.node.now c.args.child.now c.requires.even c.requires.red c.args.near c.requires.level c.in_ok-low.low
    c.in_ok-high.high c.in_ok-beside.beside c.in_ok-far-3.far beside c.in_ok-far-4.far c.in_ok-far-4.ensures.ok far

pub returns-clause-ok : goal.returns-clause-ok
returns-clause-ok g c =
    let low : c.in_ok-low.low.value ≡ c.args.child.now.entry.value = search rules in
    let high : c.in_ok-high.high.value ≡ c.args.node.now.entry.value = search rules in
    let beside = c.in_ok-beside.ensures ∙ c.far.ensures in
    let far = c.in_ok-far-3.ensures ∙ c.far-far.ensures in
    linked_turned (is_right c.args.side) c.args.node.now c.args.child.now c.requires.even c.requires.red c.args.near c.requires.level c.in_ok-low.low
    c.in_ok-high.high c.in_ok-beside.beside c.in_ok-far-3.far beside c.in_ok-far-4.far c.in_ok-far-4.ensures.ok far c.of_parts-3.result low high
    c.of_parts-3.ensures.ok
