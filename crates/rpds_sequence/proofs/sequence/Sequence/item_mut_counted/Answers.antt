use Rattle.std.proofs.Common.{◌≡◌, ◌<◌, ◌^◌, ◌∙◌, length, slice_get, arith, sym, ap, rules}
use Rattle.std.specs.Prelude.{set}
use Rattle.rpds_core.proofs.ValueLends.{read_same, told_of}
use Rattle.rpds_red_black.proofs.Levels.{few_levels}
use Rattle.rpds_sequence.specs.Contents.{items_of}
use Rattle.rpds_sequence.proofs.Items.{item_at, length_items}
use Rattle.rpds_sequence.proofs.Lent.{items_with, sequence_again}
use Rattle.rpds_sequence.proofs.sequence.Sequence.item_mut_counted.Goals as goal

pub lend_within_64-requires-clause-shallow : goal.lend_within_64-requires-clause-shallow
lend_within_64-requires-clause-shallow g c =
    let fits : c.self.inside.size < 2 ^ 64 = search rules in
    let few : length c.self.inside.tree.entries < 2 ^ 64 = omega (arith, c.self.invariant.count, fits) in
    omega (arith, c.self.invariant.shallow, few_levels _ few)

pub invariant_of-self-lent : goal.invariant_of-self-lent
invariant_of-self-lent g c =
    let b = c.lend_within_64.follows in
    let s = c.self.inside.tree in
    λ r. (
      λ w. sequence_again s (b.lender w) _ w c.self.inside.size (b.holds w).1 c.self.invariant,
      rw b.holds-at-none c.self.invariant,
    )

pub returns : goal.returns
returns g c =
    let b = c.lend_within_64.follows in
    let s = c.self.inside.tree in
    let i = c.args.index in
    let count : length c.args.self.now ≡ length s.entries = ap length (sym c.self.view_is) ∙ length_items s.entries in
    let found = ap (λ l. slice_get l i) (sym c.self.view_is) ∙ item_at s.entries i in
    let counted = c.lend_within_64.ensures.steps in (
      read_same _ c.lend_within_64.result _ _ _ _
          (λ ok w. ap items_of ((b.holds w).0 ok) ∙ items_with s.entries i w ∙ ap (λ l. set l i w) c.self.view_is)
          (ap items_of b.holds-at-none ∙ c.self.view_is),
      record {
        writes_back = tt;
        returned = told_of found _ c.lend_within_64.ensures.returned;
        out_of_range = λ out. absurd (omega (arith, out, c.if-index-self.false, count, c.self.invariant.count));
        made = rw count (omega (arith, counted.made_most, c.self.invariant.shallow));
        least = counted.made_least;
      },
    )
