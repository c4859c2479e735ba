use Rattle.std.proofs.Common.{◌∙◌, sym, ap}
use Rattle.std.specs.List.{list_any}
use Rattle.rpds_nest.proofs.Visits.{any_at, any_left, all_seen}
use Rattle.rpds_nest.proofs.nest_vector.NestVector.any.Goals as goal

pub returns-then-test : goal.returns-then-test
returns-then-test g c = λ holds h.
    sym (any_at holds c.args.self.now c.loop-index.index c.item.result.now c.item.ensures (sym (h c.item.result c.test.result c.test.ensures) ∙ c.if-test.true))

pub loop-index-preserved : goal.loop-index-preserved
loop-index-preserved g c = record {
  size = c.loop-index.invariant.size;
  left = λ holds h.
      any_left holds c.args.self.now c.loop-index.index c.item.result.now c.item.ensures (sym (h c.item.result c.test.result c.test.ensures) ∙ c.if-test.false) ∙ c.loop-index.invariant.left holds h;
}

pub returns : goal.returns
returns g c = λ holds h.
    sym (ap (list_any holds) (all_seen c.args.self.now c.len-index-end.result c.loop-index.index c.loop-index.invariant.size c.loop-index-test.false)) ∙ c.loop-index.invariant.left holds h
