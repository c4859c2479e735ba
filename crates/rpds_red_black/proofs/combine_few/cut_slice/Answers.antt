use Rattle.rpds_red_black.proofs.Words.{◌≡◌, sym, ◌∙◌, Equal, Greater, pair_of}
use Rattle.rpds_red_black.proofs.Look.{beyond, tied_of}
use Rattle.rpds_red_black.proofs.Slices.{cut_found, cut_passed}
use Rattle.rpds_red_black.proofs.combine_few.cut_slice.Goals as goal

pub returns-then-is_eq-clause-cut : goal.returns-then-is_eq-clause-cut
returns-then-is_eq-clause-cut g c =
    let tied : g.K.Ord.cmp c.index-few-place.result.now.value.key c.args.key.now ≡ Equal = rw c.deref.ensures at
    (sym c.compare-order.ensures.order ∙ tied_of _ (sym c.is_eq.ensures ∙ c.if-is_eq.true)) in
    cut_found (λ e. pair_of e.now.value) g.K.Ord.cmp g.met.K.Ord.total c.args.key.now c.args.few.now c.loop-place.place c.index-few-place.result
    c.loop-place-test.true c.index-few-place.is c.requires tied

pub returns-then-is_gt-clause-cut : goal.returns-then-is_gt-clause-cut
returns-then-is_gt-clause-cut g c =
    let greater : g.K.Ord.cmp c.index-few-place.result.now.value.key c.args.key.now ≡ Greater = rw c.deref.ensures at
    (sym c.compare-order.ensures.order ∙ beyond _ (sym c.is_gt.ensures ∙ c.if-is_gt.true)) in
    cut_passed (λ e. pair_of e.now.value) g.K.Ord.cmp g.met.K.Ord.total c.args.key.now c.args.few.now c.loop-place.place c.index-few-place.result
    c.loop-place-test.true c.index-few-place.is c.requires c.loop-place.invariant.below greater
