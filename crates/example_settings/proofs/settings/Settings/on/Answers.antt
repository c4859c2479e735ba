use Rattle.std.proofs.Common.{◌≡◌, ℕ, ◌<◌, ◌≤◌, true, List, sym, ◌∙◌, arith}
use Rattle.std.specs.declared.cmp.Ordering.TheVariants.{Less}
use Rattle.std.specs.Ordering.{nat_cmp, is_le}
use Rattle.std.proofs.lemmas.Grind.{common_steps}
use Rattle.rpds.specs.Neighbors.{IsFloor}
use Rattle.example_settings.specs.InForce.{IsInForce}
use Rattle.example_settings.proofs.settings.Settings.on.Goals as goal

less : (k j : ℕ) → k < j → nat_cmp k j ≡ Less
less k j above = grind (arith, common_steps)

up-to : (k j : ℕ) → k ≤ j → is_le (nat_cmp k j) ≡ true
up-to k j most = grind (arith, common_steps)

at-most : (k j : ℕ) → is_le (nat_cmp k j) ≡ true → k ≤ j
at-most k j le = grind (arith, common_steps)

in-force : (day : ℕ) (changes : List (ℕ × ℕ)) (change : ℕ × ℕ) → IsFloor nat_cmp day changes change → IsInForce day changes change
in-force day changes change floor = record {
  there = floor.there;
  begun = at-most change.0 day floor.within;
  last = λ later above most. floor.last later (less change.0 later above) (up-to later day most);
}

pub returns : goal.returns
returns c =
    let changes = c.self.inside.changes.entries in
    let change : ℕ × ℕ = (c.in_ok-since.since.now, c.in_ok-since.value.now) in
    let floor = c.floor_is_lawful.ensures.nearest c.args.day changes change c.floor.ensures.ordered.ascending (sym c.in_ok-since.ensures.last) in
    rw (← c.self.view_is) (in-force c.args.day changes change floor)
