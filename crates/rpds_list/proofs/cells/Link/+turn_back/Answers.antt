use Rattle.std.proofs.Common.{◌≡◌, ◌-◌, ◌≤◌, ◌<◌, ◌∷◌, length, refl, arith}
use Rattle.std.proofs.lemmas.Grind.{common_steps}
use Rattle.rpds_core.specs.Rows.{behind}
use Rattle.rpds_core.proofs.Rows.{behind_length}
use Rattle.rpds_list.specs.Chain.{items}
use Rattle.rpds_list.proofs.Turns.{one_in_back_by}
use Rattle.rpds_list.proofs.cells.Link.+turn_back.Goals as goal

pub returns-clause-swapped : goal.returns-clause-swapped
returns-clause-swapped g t c =
    λ _.
    let left = c.args.left in
    let some : 4 ≤ left = omega (arith, c.if-left-lt4.false) in
    let within : left ≤ length (behind c.args.held.now.items) = omega (arith, behind_length c.args.held.now.items, c.requires) in
    let in_first : items c.args.self.now ≡ c.in-Some.first.now.value.value ∷ items c.in-Some.first.now.next = grind (arith, common_steps) in
    let in_second : items c.in-Some.first.now.next ≡ c.in-Some-get_mut.second.now.value.value ∷ items c.in-Some-get_mut.second.now.next = grind (arith, common_steps) in
    let in_third : items c.in-Some-get_mut.second.now.next ≡ c.in-Some-get_mut-2.third.now.value.value ∷ items c.in-Some-get_mut-2.third.now.next = grind (arith, common_steps) in
    let in_fourth : items c.in-Some-get_mut-2.third.now.next ≡ c.in-Some-get_mut-3.fourth.now.value.value ∷ items c.in-Some-get_mut-3.fourth.now.next = grind (arith, common_steps) in
    let fourth = one_in_back_by (left - 4) (left - 3) (omega (arith, some)) (omega (arith, some, within))
    (c.if-not-turn_back.ensures.swapped refl) c.swap_held.ensures.held c.swap_held.ensures.item in
    let third = one_in_back_by (left - 3) (left - 2) (omega (arith, some)) (omega (arith, some, within))
    fourth c.swap_held-2.ensures.held c.swap_held-2.ensures.item in
    let second = one_in_back_by (left - 2) (left - 1) (omega (arith, some)) (omega (arith, some, within))
    third c.swap_held-3.ensures.held c.swap_held-3.ensures.item in
    let first = one_in_back_by (left - 1) left (omega (arith, some)) (omega (arith, some, within))
    second c.swap_held-4.ensures.held c.swap_held-4.ensures.item in
    rw (in_first, in_second, in_third, in_fourth) first
