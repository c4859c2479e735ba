use Rattle.std.proofs.Common.{◌≡◌, ◌-◌, drop, length, take, ap, sym, ◌∙◌, arith, lit<}
use Rattle.std.specs.Map.{keys_of}
use Rattle.rpds_red_black.proofs.Levels.{few_levels}
use Rattle.rpds_sequence.proofs.Items.{drop_within, facing_from, items_dropped, length_items, taken_from}
use Rattle.rpds_sequence.proofs.sequence.Sequence.iter_from.Goals as goal

-- the size is a usize, so no path is longer than the stack
pub over-requires : goal.over-requires
over-requires g c =
    let few = few_levels (length c.self.inside.tree.entries) (omega (arith, c.len-size.ensures, ap length c.self.view_is, length_items c.self.inside.tree.entries)) in
    (lit< tt, omega (arith, few, c.self.invariant.shallow))

pub over-requires-2 : goal.over-requires-2
over-requires-2 g c =
    let few = few_levels (length c.self.inside.tree.entries) (omega (arith, c.len-size.ensures, ap length c.self.view_is, length_items c.self.inside.tree.entries)) in
    (lit< tt, omega (arith, few, c.self.invariant.shallow))

pub start_at-requires : goal.start_at-requires
start_at-requires g c =
    let long = length_items c.self.inside.tree.entries in
    let few = few_levels (length c.self.inside.tree.entries) (omega (arith, c.len-size.ensures, ap length c.self.view_is, long)) in
    (lit< tt, (omega (arith, few, c.self.invariant.shallow), (omega (arith, c.len-size.ensures, ap length c.self.view_is, long), omega (arith, c.min-start.ensures))))

pub invariant_of-items : goal.invariant_of-items
invariant_of-items g c =
    let es = c.self.inside.tree.entries in
    let left = c.len-size.result - c.min-start.result in
    let long : left ≡ length es - c.min-start.result = ap (λ k. k - c.min-start.result) (c.len-size.ensures ∙ sym (ap length c.self.view_is) ∙ length_items es) in
    rw (c.start_at.ensures, c.over-2.ensures) (facing_from c.min-start.result left es long)

pub returns : goal.returns
returns g c =
    let es = c.self.inside.tree.entries in
    let start = c.min-start.result in
    let left = c.len-size.result - start in
    let long : left ≡ length es - start = ap (λ k. k - start) (c.len-size.ensures ∙ sym (ap length c.self.view_is) ∙ length_items es) in
    let front = ap (λ w. keys_of (take left w)) c.start_at.ensures ∙ ap keys_of (taken_from start left es long) ∙ items_dropped start es ∙ ap (λ xs. drop start xs) c.self.view_is in
    front ∙ drop_within c.args.index start c.args.self.now (omega (arith, c.min-start.ensures)) (λ h. omega (arith, h, c.min-start.ensures, c.len-size.ensures))
