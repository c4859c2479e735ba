use Rattle.std.proofs.Common.{Ok, ap, arith, length, sym, ◌∙◌}
use Rattle.std.proofs.lemmas.Result.{on_ok_weaker}
use Rattle.rpds_core.proofs.Counts.{within_more, within_then}
use Rattle.rpds_red_black.specs.Logarithm.{most_levels}
use Rattle.rpds_red_black.specs.OrderedMap.{OrderedMap}
use Rattle.rpds_tree.proofs.MergeSteps.{merged_one, settled_one}
use Rattle.rpds_tree.proofs.merging.merge_key_with.Goals as goal

pub returns-then-branch-clause-ok : goal.returns-then-branch-clause-ok
returns-then-branch-clause-ok g c =
    on_ok_weaker c.settle_key.result (λ settled k. settled_one g.met.K.Ord.total g.V.PartialEq.eq c.args.base.now.entries
    c.args.map.now.entries c.args.theirs.now.entries c.args.key.now g.F.Fn c.args.resolve.now
    (sym c.in_ok-merge_key.ensures.both ∙ c.if-branch.true) c.merge_key.new.map.entries c.settle_key.new.map.entries settled.0
    c.in_ok-merge_key.ensures.ok settled.1 settled.2 k) c.settle_key.ensures.ok

pub returns-clause-ok : goal.returns-clause-ok
returns-clause-ok g c = λ k.
    merged_one g.met.K.Ord.total g.V.PartialEq.eq c.args.base.now.entries c.args.map.now.entries c.args.theirs.now.entries
    c.args.key.now (sym c.in_ok-merge_key.ensures.both ∙ c.if-branch.false) _ c.merge_key.new.map.entries k (c.in_ok-merge_key.ensures.ok k)

pub returns-in_err-merge_key-clause-steps : goal.returns-in_err-merge_key-clause-steps
returns-in_err-merge_key-clause-steps g c = within_more c.in_err-merge_key.ensures.steps (omega arith) (omega arith)

pub returns-then-branch-clause-more : goal.returns-then-branch-clause-more
returns-then-branch-clause-more g c =
    let kept = c.in_ok-merge_key.ensures.conflict (ap Ok c.if-branch.true) in
    on_ok_weaker c.settle_key.result (λ more. omega (arith, more, ap (λ (m : OrderedMap g.row.K.Denot g.row.V.Denot). length m.entries) kept))
    c.settle_key.ensures.more

pub returns-then-branch-clause-steps : goal.returns-then-branch-clause-steps
returns-then-branch-clause-steps g c =
    let kept = c.in_ok-merge_key.ensures.conflict (ap Ok c.if-branch.true) in
    let same = ap (λ (m : OrderedMap g.row.K.Denot g.row.V.Denot). most_levels (length m.entries)) kept in
    within_more (within_then c.in_ok-merge_key.ensures.steps c.settle_key.ensures.steps) (omega (arith, same)) (omega (arith, same))

pub returns-clause-steps : goal.returns-clause-steps
returns-clause-steps g c = within_more c.in_ok-merge_key.ensures.steps (omega arith) (omega arith)
