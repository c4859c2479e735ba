use Rattle.std.proofs.Common.{◌≡◌, List, ◌++◌, map}
use Rattle.std.specs.Fmt.{debug_items, comma_space, IsPlainFormatter, IsFlush}
use Rattle.std.specs.Iterator.{IsFinite}
use Rattle.std.proofs.Debugs.{Shows}
use Rattle.rpds_core.specs.Sequence.{ShowsList}
use Rattle.rpds_core.proofs.Texts.{ShowsStyled}
use Rattle.rpds_core.proofs.sequence.write_items.Given as goal

abbrev pub invariant-loop-item : goal.invariant-loop-item
invariant-loop-item g l =
    let X = g.row.X.Denot in
    let T = g.row.T.Denot in
    let took = g.W.Write.write_str_gives in
    g.I.Iterator.can_next l.item-iterator × IsFinite (g.I.Iterator.remaining l.item-iterator)
    × ((see : X → T) (rest : g.row.I.Denot → List T) → ShowsList g.I.Iterator.next_gives see rest
    → map see l.yielded ++ rest l.item-iterator ≡ rest l.initial.item-iterator)
    × (IsPlainFormatter l.initial.f → Shows took l.initial.f (debug_items g.X.Display.output comma_space l.yielded) l.f)
    × (IsFlush l.initial.f → ShowsStyled took l.initial.f (debug_items (λ x. g.X.Display.styled_output x l.initial.f.spec) comma_space l.yielded) l.f)
