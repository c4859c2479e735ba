use Rattle.std.proofs.Common.{◌≡◌, ◌∙◌, sym, ap, arith, true, false}
use Rattle.std.proofs.lemmas.Grind.{common_steps}
use Rattle.std.specs.List.{list_all}
use Rattle.rpds_nest.proofs.Visits.{all_at, all_left, all_seen}
use Rattle.rpds_nest.proofs.nest_vector.NestVector.all.Goals as goal

pub returns-then-not-test : goal.returns-then-not-test
returns-then-not-test g c = λ holds h.
    let no : c.test.result ≡ false = grind (arith, common_steps, c.if-not-test.true) in
    sym (all_at holds c.args.self.now c.loop-index.index c.item.result.now c.item.ensures (sym (h c.item.result c.test.result c.test.ensures) ∙ no))

pub loop-index-preserved : goal.loop-index-preserved
loop-index-preserved g c =
    let yes : c.test.result ≡ true = grind (arith, common_steps, c.if-not-test.false) in
    record {
      size = c.loop-index.invariant.size;
      left = λ holds h.
          all_left holds c.args.self.now c.loop-index.index c.item.result.now c.item.ensures (sym (h c.item.result c.test.result c.test.ensures) ∙ yes) ∙ c.loop-index.invariant.left holds h;
    }

pub returns : goal.returns
returns g c = λ holds h.
    sym (ap (list_all holds) (all_seen c.args.self.now c.len-index-end.result c.loop-index.index c.loop-index.invariant.size c.loop-index-test.false)) ∙ c.loop-index.invariant.left holds h
