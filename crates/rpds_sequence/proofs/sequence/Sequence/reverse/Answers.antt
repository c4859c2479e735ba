use Rattle.std.proofs.Common.{length, ap, ◌∙◌, arith, lit<}
use Rattle.std.proofs.lemmas.List.{length-map, length-reverse}
use Rattle.std.specs.Map.{keys_of}
use Rattle.rpds_red_black.proofs.Levels.{few_levels}
use Rattle.rpds_sequence.proofs.Items.{all_walked, items_entries, items_reversed, length_items}
use Rattle.rpds_sequence.proofs.sequence.Sequence.reverse.Goals as goal

-- the size is a usize, so no path is longer than the stack
pub over-walk-requires : goal.over-walk-requires
over-walk-requires g c =
    let few = few_levels (length c.self.inside.tree.entries) (omega (arith, c.len-size.ensures, ap length c.self.view_is, length_items c.self.inside.tree.entries)) in
    (lit< tt, omega (arith, few, c.self.invariant.shallow))

pub loop-walk-init : goal.loop-walk-init
loop-walk-init g c = rw (c.in_ok-entries.ensures.items, c.over-walk.ensures, ← c.self.view_is) (items_reversed c.self.inside.tree.entries)

pub returns : goal.returns
returns g c =
    let entries = c.loop-walk.entries.items in
    let all = all_walked _ c.loop-walk.walk _ c.loop-walk.invariant (omega (arith, length-reverse c.args.self.now, length-map entries (λ e. e.value.key), c.len.ensures, c.len-size.ensures, c.loop-walk-test.false)) in
    c.of_tree.ensures ∙ ap keys_of c.in_ok-tree.ensures.pairs ∙ items_entries entries ∙ all
