use Rattle.rpds_tree.proofs.Words.{Bound, List, length, ap, arith, filter, lit<, bound_map, is_from, IsAscending, reverse, true}
use Rattle.rpds_red_black.specs.Ranges.{within_forms}
use Rattle.rpds_red_black.proofs.Levels.{few_levels}
use Rattle.rpds_red_black.proofs.FormBounds.{end_upward, from_form_end, start_upward}
use Rattle.rpds_red_black.specs.TreeWalk.{form_along}
use Rattle.rpds_tree.specs.MapEnds.{AreEndsOf}
use Rattle.rpds_tree.proofs.Range.{ends_of}
use Rattle.rpds_tree.proofs.map.red_black_tree_map.RedBlackTreeMap.start_range.Given.{Over}
use Rattle.rpds_tree.proofs.map.red_black_tree_map.RedBlackTreeMap.start_range.Goals as goal

-- the walks from the two bounds meet within them
cut : (g : Over) (start end : Bound g.row.Q.Denot) (es : List (g.row.K.Denot × g.row.V.Denot)) → IsAscending g.K.Ord.cmp es
    → AreEndsOf g.K.Ord.cmp (filter (λ p. is_from g.Q.OrdKey.order (bound_map g.Q.OrdKey.seen start) p.0) es)
    (filter (λ p. is_from (form_along true g.Q.OrdKey.order g.Q.OrdKey.turned) (bound_map g.Q.OrdKey.seen end) p.0) (reverse es))
    (within_forms g.Q.OrdKey.order g.Q.OrdKey.turned (bound_map g.Q.OrdKey.seen start) (bound_map g.Q.OrdKey.seen end) es)
cut g start end es asc =
    let form = g.Q.OrdKey in
    let law = g.met.Q.OrdKey in
    let from = start_upward g.met.K.Ord.total form.seen form.order form.turned law.searches law.turns start in
    let up_to = end_upward g.met.K.Ord.total form.seen form.order form.turned law.searches law.turns end in
    let over = bound_map form.seen end in
    ends_of g.met.K.Ord.total from up_to (is_from (form_along true form.order form.turned) over) (from_form_end form.order form.turned over) es asc

-- the size is a usize, so no path is longer than the stack
pub start_from-requires : goal.start_from-requires
start_from-requires g c =
    let depth = ap (λ m. m.depth) c.self.view_is in
    let few = few_levels (length c.args.self.now.entries) (omega (arith, c.size-size.ensures.count)) in
    (lit< tt, (c.requires.front, (omega (arith, depth, few, c.size-size.ensures.ordered.shallow, c.narrowed-tree.ensures.shallow), c.narrowed-tree.ensures.ascending)))

pub start_from-requires-2 : goal.start_from-requires-2
start_from-requires-2 g c =
    let depth = ap (λ m. m.depth) c.self.view_is in
    let few = few_levels (length c.args.self.now.entries) (omega (arith, c.size-size.ensures.count)) in
    (lit< tt, (c.requires.back, (omega (arith, depth, few, c.size-size.ensures.ordered.shallow, c.narrowed-tree.ensures.shallow), c.narrowed-tree.ensures.ascending)))

pub returns-clause-ends : goal.returns-clause-ends
returns-clause-ends g c =
    rw (← c.self.view_is, c.start_from.ensures, c.start_from-2.ensures, ← c.narrowed-tree.ensures.within) (cut g c.args.start.now c.args.end.now c.narrowed-tree.result.now.entries c.narrowed-tree.ensures.ascending)
