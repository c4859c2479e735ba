use Rattle.std.proofs.Common.{ap, sym, ◌∙◌}
use Rattle.rpds_sequence.specs.Contents.{less_or_greater}
use Rattle.rpds_red_black.proofs.Searching.{answers_next}
use Rattle.rpds_sequence.proofs.sequence.fn.Sequence.partition_point.binary_search_by.Goals as goal

pub returns-then-pred : goal.returns-then-pred
returns-then-pred g c =
    λ p h.
    let w = (g.met.F.FnMut.1.post_iff _ _ _).0 c.pred.ensures in
    let x = answers_next g.F.Fn _ _ _ _ _ w.1 h in
    ap less_or_greater (sym c.if-pred.true ∙ x.0)

pub returns-else-pred : goal.returns-else-pred
returns-else-pred g c =
    λ p h.
    let w = (g.met.F.FnMut.1.post_iff _ _ _).0 c.pred.ensures in
    let x = answers_next g.F.Fn _ _ _ _ _ w.1 h in
    ap less_or_greater (sym c.if-pred.false ∙ x.0)
