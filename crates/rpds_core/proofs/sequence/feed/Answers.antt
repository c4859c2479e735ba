use Rattle.std.proofs.Common.{rules, sym, ap, ◌∙◌, Some, None}
use Rattle.std.specs.List.{flat_map, fold}
use Rattle.std.proofs.lemmas.List.Sums.{fold-append}
use Rattle.rpds_core.proofs.sequence.feed.Goals as goal

pub loop-item-preserved : goal.loop-item-preserved
loop-item-preserved g c = (
  search rules,
  search rules,
  λ see rest input shows agrees.
      let took = g.H.Hasher.write in
      let x = c.in-Some.item in
      let state = c.loop-item.state in
      let left = rest c.next.new.self in
      ap (λ s. fold took s (flat_map input left)) (c.hash.ensures ∙ ap (λ w. fold took state w) (agrees x))
      ∙ sym (fold-append took state (input (see x)) (flat_map input left))
      ∙ ap (λ l. fold took state (flat_map input l)) (sym (shows c.loop-item.item-iterator (Some x) c.next.new.self c.in-Some.ensures.steps))
      ∙ c.loop-item.invariant.2 see rest input shows agrees,
)

pub returns : goal.returns
returns g c = λ see rest input shows agrees.
    let took = g.H.Hasher.write in
    ap (λ l. fold took c.loop-item.state (flat_map input l)) (sym (shows c.loop-item.item-iterator None c.next.new.self c.in-None.ensures.steps).0)
    ∙ c.loop-item.invariant.2 see rest input shows agrees
    ∙ ap (λ s. fold took c.args.state.now (flat_map input (rest s))) c.into_iter-item-iterator.ensures.into_iter_gives
