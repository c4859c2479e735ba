use Rattle.std.proofs.Common.{ap, ◌∙◌}
use Rattle.rpds_red_black.proofs.Searching.{answers_next}
use Rattle.rpds_sequence.proofs.sequence.fn.Sequence.binary_search_by_key.binary_search_by.Goals as goal

pub returns : goal.returns
returns g c =
    λ key h.
    let w = (g.met.F.FnMut.1.post_iff _ _ _).0 c.f.ensures in
    let x = answers_next g.F.Fn _ _ _ _ _ w.1 h in
    c.cmp.ensures ∙ ap (λ y. g.B.Ord.cmp y c.before.captures.b.now) x.0
