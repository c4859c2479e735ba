use Rattle.std.proofs.Common.{◌≡◌, ◌-◌, ◌<◌, ◌∷◌, length, refl, arith}
use Rattle.std.proofs.lemmas.Grind.{common_steps}
use Rattle.rpds_core.specs.Rows.{behind}
use Rattle.rpds_core.proofs.Rows.{behind_length}
use Rattle.rpds_list.specs.Chain.{items}
use Rattle.rpds_list.proofs.Turns.{none_swapped, one_in_back_by}
use Rattle.rpds_list.proofs.cells.Link.+turn_last.Goals as goal

pub returns-then-left-eq0-clause-swapped : goal.returns-then-left-eq0-clause-swapped
returns-then-left-eq0-clause-swapped g t c =
    λ _. rw c.if-left-eq0.true (none_swapped (behind c.args.held.now.items) (items c.args.self.now))

pub returns-clause-swapped : goal.returns-clause-swapped
returns-clause-swapped g t c =
    λ _.
    let left = c.args.left in
    let some : 0 < left = omega (arith, c.if-left-eq0.false) in
    let within : left - 1 < length (behind c.args.held.now.items) = omega (arith, some, behind_length c.args.held.now.items, c.requires) in
    let cells : items c.args.self.now ≡ c.in-Some.first.now.value.value ∷ items c.in-Some.first.now.next = grind (arith, common_steps) in
    rw cells (one_in_back_by (left - 1) left (omega (arith, some)) within
    (c.if-not-turn_last.ensures.swapped refl) c.swap_held.ensures.held c.swap_held.ensures.item)
