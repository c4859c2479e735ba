use Rattle.std.proofs.Common.{rules, [], ◌∷◌, ◌++◌, Some, Ok, map, refl, sym, ap, subst, ◌∙◌, append_assoc}
use Rattle.std.specs.Fmt.{debug_items, comma_space, DisplaysOnOk, DisplaysStyledOnOk}
use Rattle.std.proofs.Debugs.{shows_then, shows_from, displays_from}
use Rattle.rpds_core.proofs.SeenTexts.{items_seen, all_seen, plain_items}
use Rattle.rpds_core.proofs.Texts.{map_push, items_push, ShowsStyled, styled_then, styled_from, styled_displays, styled_items}
use Rattle.rpds_core.proofs.sequence.write_items.Goals as goal

pub loop-item-preserved : goal.loop-item-preserved
loop-item-preserved g c =
    let took = g.W.Write.write_str_gives in
    let seen = c.loop-item.yielded in
    let x = c.in-Some-item.item in
    let start = c.fmt.new.f in
    let before = c.loop-item.f in
    let between = c.write_str.new.self in
    let now = c.fmt-in-loop-item.new.f in
    let plain_text = g.X.Display.output in
    let styled_text = λ (x : g.row.X.Denot). g.X.Display.styled_output x start.spec in (
      search rules,
      search rules,
      λ see rest shows.
          rw (map_push see seen x) (append_assoc (map see seen) (see x ∷ []) (rest c.next-in-loop-item.new.self)
          ∙ ap (λ l. map see seen ++ l) (sym (shows c.loop-item.item-iterator (Some x) c.next-in-loop-item.new.self c.in-Some-item.ensures.steps))
          ∙ c.loop-item.invariant.2 see rest shows),
      λ plain.
          rw (items_push plain_text seen x) (shows_then took start before now (debug_items plain_text comma_space seen) _ (c.loop-item.invariant.3 plain)
          (λ p. shows_then took before between now (Some comma_space) (plain_text x) (c.in_ok-write_str.ensures.writes p refl)
          (λ q. shows_from took between now (Ok tt) (plain_text x) c.in_ok-fmt-2.ensures.writes q refl))),
      λ flush.
          rw (items_push styled_text seen x) (styled_then took start before now (debug_items styled_text comma_space seen) _ (c.loop-item.invariant.4 flush)
          (λ p e. styled_then took before between now (Some comma_space) (styled_text x) (c.in_ok-write_str.ensures.styled p refl)
          (λ q d. styled_from took between now (Ok tt) (styled_text x) (subst (λ s. DisplaysStyledOnOk took between (Ok tt) (g.X.Display.styled_output x s) now) (d ∙ e) c.in_ok-fmt-2.ensures.styled) q refl))),
    )

pub returns-in-None-clause-writes : goal.returns-in-None-clause-writes
returns-in-None-clause-writes g c = λ see rest text shows agrees.
    let took = g.W.Write.write_str_gives in
    let start = c.args.f.now in
    let now = c.fmt.new.f in
    let end = c.loop-item.f in
    let own = g.X.Display.output in
    let seen = c.loop-item.yielded in
    let all = c.in-Some.first ∷ seen in
    let kept = c.loop-item.invariant.2 see rest shows ∙ ap rest c.into_iter-item-iterator.ensures.into_iter_gives in
    let split = all_seen shows seen c.in-Some.ensures.steps kept c.in-None.ensures.steps in
    subst (λ o. DisplaysOnOk took start (Ok tt) o end) (items_seen own see text agrees [] all ∙ ap (debug_items text []) (sym split))
    (displays_from took start end (Ok tt) (debug_items own [] all) (λ plain ok.
    plain_items took own c.in-Some.first seen start now end
    (shows_from took start now (Ok tt) (own c.in-Some.first) c.in_ok-fmt.ensures.writes plain refl) (λ p. c.loop-item.invariant.3 p)))

pub returns-in-None-clause-styled : goal.returns-in-None-clause-styled
returns-in-None-clause-styled g c = λ see rest text shows agrees.
    let took = g.W.Write.write_str_gives in
    let start = c.args.f.now in
    let now = c.fmt.new.f in
    let end = c.loop-item.f in
    let own = λ (x : g.row.X.Denot). g.X.Display.styled_output x start.spec in
    let seen = c.loop-item.yielded in
    let all = c.in-Some.first ∷ seen in
    let kept = c.loop-item.invariant.2 see rest shows ∙ ap rest c.into_iter-item-iterator.ensures.into_iter_gives in
    let split = all_seen shows seen c.in-Some.ensures.steps kept c.in-None.ensures.steps in
    subst (λ o. DisplaysStyledOnOk took start (Ok tt) o end) (items_seen own see text agrees [] all ∙ ap (debug_items text []) (sym split))
    (styled_displays took start end (Ok tt) (debug_items own [] all) (λ flush ok.
    styled_items took own c.in-Some.first seen start now end
    (styled_from took start now (Ok tt) (own c.in-Some.first) c.in_ok-fmt.ensures.styled flush refl)
    (λ p e. subst (λ s. ShowsStyled took now (debug_items (λ (x : g.row.X.Denot). g.X.Display.styled_output x s) comma_space seen) end) e (c.loop-item.invariant.4 p))))
