use Rattle.rpds_tree.proofs.Words.{◌≡◌, ◌≤◌, ◌+◌, ◌-◌, ◌++◌, Bound, ℕ, List, most_levels, not, IfOk, length, max, sym, ap, ◌∙◌, subst, arith, IfOk-weaker, within_more, within_then, true}
use Rattle.rpds_tree.proofs.Words.{IsAscending, OrderedMap, bound_map, cmp_along, filter, is_from, is_up_to}
use Rattle.rpds_red_black.specs.Ranges.{outside_forms, within_forms}
use Rattle.rpds_red_black.proofs.Bounds.{IsUpward}
use Rattle.rpds_red_black.proofs.FormBounds.{end_upward, start_upward}
use Rattle.rpds_tree.proofs.Outside.{all_outside, around_range, ascending_around, inside_len, some_of}
use Rattle.rpds_tree.proofs.Parts.{few_filtered}
use Rattle.rpds_red_black.proofs.Ranks.{log_grows}
use Rattle.rpds_tree.proofs.map.red_black_tree_map.RedBlackTreeMap.without_range_counted.Given.{Over}
use Rattle.rpds_tree.proofs.map.red_black_tree_map.RedBlackTreeMap.without_range_counted.Goals as goal

-- the two bounds, as tests
starts : (g : Over) (start : Bound g.row.Q.Denot) → IsUpward g.K.Ord.cmp (is_from g.Q.OrdKey.order (bound_map g.Q.OrdKey.seen start))
starts g start = start_upward g.met.K.Ord.total g.Q.OrdKey.seen g.Q.OrdKey.order g.Q.OrdKey.turned g.met.Q.OrdKey.searches g.met.Q.OrdKey.turns start

ends : (g : Over) (end : Bound g.row.Q.Denot) → IsUpward (cmp_along true g.K.Ord.cmp) (is_up_to g.Q.OrdKey.turned (bound_map g.Q.OrdKey.seen end))
ends g end = end_upward g.met.K.Ord.total g.Q.OrdKey.seen g.Q.OrdKey.order g.Q.OrdKey.turned g.met.Q.OrdKey.searches g.met.Q.OrdKey.turns end

-- the pairs within the bounds
abbrev within : (g : Over) (start end : Bound g.row.Q.Denot) → List (g.row.K.Denot × g.row.V.Denot) → List (g.row.K.Denot × g.row.V.Denot)
within g start end es = within_forms g.Q.OrdKey.order g.Q.OrdKey.turned (bound_map g.Q.OrdKey.seen start) (bound_map g.Q.OrdKey.seen end) es

-- how many there are, by how many are before them and behind them
between_is : (g : Over) (start end : Bound g.row.Q.Denot) (es before after : List (g.row.K.Denot × g.row.V.Denot)) (between : ℕ) → IsAscending g.K.Ord.cmp es
    → before ≡ filter (λ p. not (is_from g.Q.OrdKey.order (bound_map g.Q.OrdKey.seen start) p.0)) es
    → after ≡ filter (λ p. not (is_up_to g.Q.OrdKey.turned (bound_map g.Q.OrdKey.seen end) p.0)) es
    → between ≡ length es - length before - length after → between ≡ length (within g start end es)
between_is g start end es before after between asc b a is = is ∙ rw (b, a) (inside_len (starts g start) (ends g end) es asc)

pub returns-then-between-eq0-clause-ok : goal.returns-then-between-eq0-clause-ok
returns-then-between-eq0-clause-ok g c =
    let es = c.args.self.now.entries in
    let less : c.saturating_sub-between.result ≡ length es - length c.in_ok-before.before.entries - length c.in_ok-after.after.entries =
    omega (arith, c.saturating_sub.ensures, c.saturating_sub-between.ensures, c.size-size.ensures.count, c.size.ensures.count, c.size-2.ensures.count) in
    let is = between_is g c.args.start c.args.end es c.in_ok-before.before.entries c.in_ok-after.after.entries c.saturating_sub-between.result
    c.size-size.ensures.ordered.ascending c.in_ok-before.ensures.ok c.in_ok-after.ensures.ok less in
    let whole = all_outside (starts g c.args.start) (ends g c.args.end) es (sym is ∙ c.if-between-eq0.true) in
    IfOk-weaker c.clone.result (λ m. m ≡ c.args.self.now)
    (λ m. m.entries ≡ outside_forms g.Q.OrdKey.order g.Q.OrdKey.turned (bound_map g.Q.OrdKey.seen c.args.start) (bound_map g.Q.OrdKey.seen c.args.end) es)
    (λ m same. ap (λ (m : OrderedMap _ _). m.entries) same ∙ sym whole) c.clone.ensures

pub returns-then-between-eq0-clause-depth : goal.returns-then-between-eq0-clause-depth
returns-then-between-eq0-clause-depth g c =
    IfOk-weaker c.clone.result (λ m. m ≡ c.args.self.now) (λ m. m.depth ≤ most_levels (length m.entries)) (λ m same. rw same c.size-size.ensures.ordered.shallow) c.clone.ensures

pub append_unchecked-requires : goal.append_unchecked-requires
append_unchecked-requires g c =
    let es = c.args.self.now.entries in
    let less : c.saturating_sub-between.result ≡ length es - length c.in_ok-before.before.entries - length c.in_ok-after.after.entries =
    omega (arith, c.saturating_sub.ensures, c.saturating_sub-between.ensures, c.size-size.ensures.count, c.size.ensures.count, c.size-2.ensures.count) in
    let is = between_is g c.args.start c.args.end es c.in_ok-before.before.entries c.in_ok-after.after.entries c.saturating_sub-between.result
    c.size-size.ensures.ordered.ascending c.in_ok-before.ensures.ok c.in_ok-after.ensures.ok less in
    rw (c.in_ok-before.ensures.ok, c.in_ok-after.ensures.ok)
    (ascending_around (starts g c.args.start) (ends g c.args.end) es c.size-size.ensures.ordered.ascending (some_of is c.if-between-eq0.false))

pub returns-clause-ok : goal.returns-clause-ok
returns-clause-ok g c =
    let es = c.args.self.now.entries in
    let less : c.saturating_sub-between.result ≡ length es - length c.in_ok-before.before.entries - length c.in_ok-after.after.entries =
    omega (arith, c.saturating_sub.ensures, c.saturating_sub-between.ensures, c.size-size.ensures.count, c.size.ensures.count, c.size-2.ensures.count) in
    let is = between_is g c.args.start c.args.end es c.in_ok-before.before.entries c.in_ok-after.after.entries c.saturating_sub-between.result
    c.size-size.ensures.ordered.ascending c.in_ok-before.ensures.ok c.in_ok-after.ensures.ok less in
    let parts = (λ i. c.in_ok-before.ensures.ok i ++ c.in_ok-after.ensures.ok i)
    ∙ around_range (starts g c.args.start) (ends g c.args.end) es c.size-size.ensures.ordered.ascending (some_of is c.if-between-eq0.false) in
    subst (λ es. IfOk c.append_unchecked.result (λ m. m.entries ≡ es)) parts c.append_unchecked.ensures.ok

pub returns-clause-steps : goal.returns-clause-steps
returns-clause-steps g c =
    let all = length c.args.self.now.entries in
    let before : length c.in_ok-before.before.entries ≤ all = omega (
      arith,
      ap length c.in_ok-before.ensures.ok,
      few_filtered
          (λ p. not (is_from g.Q.OrdKey.order (bound_map g.Q.OrdKey.seen c.args.start) p.0)) c.args.self.now.entries,
    ) in
    let after : length c.in_ok-after.after.entries ≤ all = omega (
      arith,
      ap length c.in_ok-after.ensures.ok,
      few_filtered
          (λ p. not (is_up_to g.Q.OrdKey.turned (bound_map g.Q.OrdKey.seen c.args.end) p.0)) c.args.self.now.entries,
    ) in
    let most = max (length c.in_ok-before.before.entries) (length c.in_ok-after.after.entries) in
    let low = log_grows (most + 1) (all + 1) (omega arith) (omega (arith, before, after)) in
    within_more (within_then (within_then c.pairs_below.ensures.steps c.pairs_above.ensures.steps) c.append_unchecked.ensures.steps) (omega arith) (omega (arith, low))
