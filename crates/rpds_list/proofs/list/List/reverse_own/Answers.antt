use Rattle.std.proofs.Common.{◌≡◌, ◌<◌, length, take, reverse, refl, ap, sym, ◌∙◌, arith}
use Rattle.std.specs.Option.{option_map}
use Rattle.std.proofs.lemmas.List.{length-reverse, length-take}
use Rattle.rpds_core.specs.Rows.{behind}
use Rattle.rpds_list.specs.Chain.{items}
use Rattle.rpds_list.proofs.Chains.{last_of_turned}
use Rattle.rpds_list.proofs.Turns.{turned_whole}
use Rattle.rpds_list.proofs.list.List.reverse_own.Goals as goal

pub invariant_of-self-2 : goal.invariant_of-self-2
invariant_of-self-2 g c =
    let kept = c.args.kept in
    let was = items c.self.inside.head in
    let put : items c.turn_front.new.self ≡ reverse (take kept was) =
    turned_whole kept (behind c.in_ok-held.held.items) was (behind c.turn_front.new.held.items) (items c.turn_front.new.self) (c.if-not-turn_front.ensures.turned refl) in
    let some : 0 < kept = omega (arith, c.if-kept-eq0.false) in
    rw put (
      omega (arith, length-reverse (take kept was), length-take kept was, c.requires, ap length c.self.view_is),
      rw (last_of_turned was kept some) (ap (option_map (λ item. item.value)) (sym c.in-Some.is) ∙ c.in_ok-last.ensures),
    )

pub returns-clause-reversed : goal.returns-clause-reversed
returns-clause-reversed g c =
    let kept = c.args.kept in
    let was = items c.self.inside.head in
    let put : items c.turn_front.new.self ≡ reverse (take kept was) =
    turned_whole kept (behind c.in_ok-held.held.items) was (behind c.turn_front.new.held.items) (items c.turn_front.new.self) (c.if-not-turn_front.ensures.turned refl) in
    λ _. put ∙ ap (λ xs. reverse (take kept xs)) c.self.view_is
