use Rattle.std.proofs.Common.{◌∙◌, ◌+◌, sym, ap, drop}
use Rattle.std.specs.List.{fold}
use Rattle.rpds_nest.proofs.Visits.{fold_left, all_seen}
use Rattle.rpds_nest.proofs.nest_vector.NestVector.fold.Goals as goal

pub loop-index-preserved : goal.loop-index-preserved
loop-index-preserved g c = record {
  size = c.loop-index.invariant.size;
  left = λ f h.
      ap (λ v. fold f v (drop (c.loop-index.index + 1) c.args.self.now)) (h c.loop-index.value c.item.result c.step-value.result c.step-value.ensures)
      ∙ fold_left f c.loop-index.value c.args.self.now c.loop-index.index c.item.result.now c.item.ensures ∙ c.loop-index.invariant.left f h;
}

pub returns : goal.returns
returns g c = λ f h.
    sym (ap (fold f c.loop-index.value) (all_seen c.args.self.now c.len-index-end.result c.loop-index.index c.loop-index.invariant.size c.loop-index-test.false)) ∙ c.loop-index.invariant.left f h
