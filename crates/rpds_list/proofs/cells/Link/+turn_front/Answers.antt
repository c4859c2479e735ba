use Rattle.std.proofs.Common.{◌≡◌, ◌+◌, ◌-◌, ◌≤◌, ◌/◌, ◌∷◌, refl, ◌∙◌, arith}
use Rattle.std.proofs.lemmas.Grind.{common_steps}
use Rattle.rpds_core.proofs.Rows.{behind_length}
use Rattle.rpds_list.specs.Chain.{items}
use Rattle.rpds_list.proofs.Turns.{one_in_front_by, back_again}
use Rattle.rpds_list.proofs.cells.Link.+turn_front.Goals as goal

pub returns-clause-turned : goal.returns-clause-turned
returns-clause-turned g t c =
    λ all.
    let at = c.args.at in
    let kept = c.args.kept in
    let within : at + 4 ≤ kept / 2 = omega (arith, c.if-left-lt4.false) in
    let in_first : items c.args.self.now ≡ c.in-Some.first.now.value.value ∷ items c.in-Some.first.now.next = grind (arith, common_steps) in
    let in_second : items c.in-Some.first.now.next ≡ c.in-Some-get_mut.second.now.value.value ∷ items c.in-Some-get_mut.second.now.next = grind (arith, common_steps) in
    let in_third : items c.in-Some-get_mut.second.now.next ≡ c.in-Some-get_mut-2.third.now.value.value ∷ items c.in-Some-get_mut-2.third.now.next = grind (arith, common_steps) in
    let in_fourth : items c.in-Some-get_mut-2.third.now.next ≡ c.in-Some-get_mut-3.fourth.now.value.value ∷ items c.in-Some-get_mut-3.fourth.now.next = grind (arith, common_steps) in
    let half = behind_length c.args.held.now.items ∙ c.requires.half in
    let half_2 = behind_length c.swap_held.new.held.items ∙ c.swap_held.ensures.len ∙ c.requires.half in
    let half_3 = behind_length c.swap_held-2.new.held.items ∙ c.swap_held-2.ensures.len ∙ c.swap_held.ensures.len ∙ c.requires.half in
    let half_4 = behind_length c.swap_held-3.new.held.items ∙ c.swap_held-3.ensures.len ∙ c.swap_held-2.ensures.len ∙ c.swap_held.ensures.len ∙ c.requires.half in
    let fourth = one_in_front_by kept (at + 3) (at + 4) (omega arith) half_4 (omega (arith, within))
    c.swap_held-4.ensures.held c.swap_held-4.ensures.item (c.turn_front-turned.ensures.turned all) c.swap_held-5.ensures.held c.swap_held-5.ensures.item in
    let third = one_in_front_by kept (at + 2) (at + 3) (omega arith) half_3 (omega (arith, within))
    c.swap_held-3.ensures.held c.swap_held-3.ensures.item fourth c.swap_held-6.ensures.held c.swap_held-6.ensures.item in
    let second = one_in_front_by kept (at + 1) (at + 2) (omega arith) half_2 (omega (arith, within))
    c.swap_held-2.ensures.held c.swap_held-2.ensures.item third c.swap_held-7.ensures.held c.swap_held-7.ensures.item in
    let first = one_in_front_by kept at (at + 1) refl half (omega (arith, within))
    c.swap_held.ensures.held c.swap_held.ensures.item second c.swap_held-8.ensures.held c.swap_held-8.ensures.item in
    rw (in_first, in_second, in_third, in_fourth) first

pub returns-clause-not : goal.returns-clause-not
returns-clause-not g t c =
    λ not.
    let at = c.args.at in
    let in_first : items c.args.self.now ≡ c.in-Some.first.now.value.value ∷ items c.in-Some.first.now.next = grind (arith, common_steps) in
    let in_second : items c.in-Some.first.now.next ≡ c.in-Some-get_mut.second.now.value.value ∷ items c.in-Some-get_mut.second.now.next = grind (arith, common_steps) in
    let in_third : items c.in-Some-get_mut.second.now.next ≡ c.in-Some-get_mut-2.third.now.value.value ∷ items c.in-Some-get_mut-2.third.now.next = grind (arith, common_steps) in
    let in_fourth : items c.in-Some-get_mut-2.third.now.next ≡ c.in-Some-get_mut-3.fourth.now.value.value ∷ items c.in-Some-get_mut-3.fourth.now.next = grind (arith, common_steps) in
    let below = c.turn_front-turned.ensures.not not in
    let fourth = back_again (at + 3) c.swap_held-4.ensures.held c.swap_held-4.ensures.item below.0 c.swap_held-5.ensures.held c.swap_held-5.ensures.item in
    let third = back_again (at + 2) c.swap_held-3.ensures.held c.swap_held-3.ensures.item fourth.0 c.swap_held-6.ensures.held c.swap_held-6.ensures.item in
    let second = back_again (at + 1) c.swap_held-2.ensures.held c.swap_held-2.ensures.item third.0 c.swap_held-7.ensures.held c.swap_held-7.ensures.item in
    let first = back_again at c.swap_held.ensures.held c.swap_held.ensures.item second.0 c.swap_held-8.ensures.held c.swap_held-8.ensures.item in
    (first.0, rw (first.1, second.1, third.1, fourth.1, below.1, in_first, in_second, in_third, in_fourth) refl)
