use Rattle.std.proofs.Common.{◌≡◌, ◌+◌, ◌<◌, ◌/◌, ◌∷◌, refl, ◌∙◌, arith}
use Rattle.std.proofs.lemmas.Grind.{common_steps}
use Rattle.rpds_core.specs.Rows.{behind}
use Rattle.rpds_core.proofs.Rows.{behind_length}
use Rattle.rpds_list.specs.Chain.{items}
use Rattle.rpds_list.proofs.Turns.{halves_meet, one_between, one_in_front_by, back_again}
use Rattle.rpds_list.proofs.cells.Link.+turn_few.Goals as goal

pub returns-then-left-at-clause-turned : goal.returns-then-left-at-clause-turned
returns-then-left-at-clause-turned g t c =
    λ all.
    let at = c.args.at in
    let twice : c.args.kept ≡ at + at = omega (arith, c.if-left-at.true, c.requires.within) in
    halves_meet c.args.kept at (behind c.args.held.now.items) (items c.args.self.now) (behind c.turn_back.new.held.items) (items c.turn_back.new.self) twice (c.turn_back.ensures.swapped all)

pub returns-then-left-at-2-clause-turned : goal.returns-then-left-at-2-clause-turned
returns-then-left-at-2-clause-turned g t c =
    λ all.
    let at = c.args.at in
    let odd : c.args.kept ≡ at + at + 1 = omega (arith, c.if-left-at-2.true, c.if-left-at.false, c.requires.within) in
    let cells : items c.args.self.now ≡ c.in-Some.first.now.value.value ∷ items c.in-Some.first.now.next = grind (arith, common_steps) in
    rw cells (one_between c.args.kept at (behind c.args.held.now.items) c.in-Some.first.now.value.value (items c.in-Some.first.now.next) (behind c.turn_back-then-left-at-2.new.held.items) (items c.turn_back-then-left-at-2.new.self) odd (c.turn_back-then-left-at-2.ensures.swapped all))

pub returns-clause-turned : goal.returns-clause-turned
returns-clause-turned g t c =
    λ all.
    let at = c.args.at in
    let cells : items c.args.self.now ≡ c.in-Some.first.now.value.value ∷ items c.in-Some.first.now.next = grind (arith, common_steps) in
    let half = behind_length c.args.held.now.items ∙ c.requires.half in
    let within : at < c.args.kept / 2 = omega (arith, c.if-left-at.false, c.if-left-at-2.false, c.requires.within) in
    rw cells (one_in_front_by c.args.kept at (at + 1) refl half within
    c.swap_held.ensures.held c.swap_held.ensures.item (c.turn_few-turned.ensures.turned all) c.swap_held-2.ensures.held c.swap_held-2.ensures.item)

pub returns-clause-not : goal.returns-clause-not
returns-clause-not g t c =
    λ not.
    let cells : items c.args.self.now ≡ c.in-Some.first.now.value.value ∷ items c.in-Some.first.now.next = grind (arith, common_steps) in
    let below = c.turn_few-turned.ensures.not not in
    let first = back_again c.args.at c.swap_held.ensures.held c.swap_held.ensures.item below.0 c.swap_held-2.ensures.held c.swap_held-2.ensures.item in
    (first.0, rw (first.1, below.1, cells) refl)
