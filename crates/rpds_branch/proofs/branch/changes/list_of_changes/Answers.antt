use Rattle.std.proofs.Common.{◌≡◌, ◌+◌, ◌*◌, ◌++◌, [], append-nil, arith, rules, ap, length, map, subst, sym, ◌∙◌}
use Rattle.std.proofs.Math.Nat.{add-mul, one-mul}
use Rattle.std.proofs.lemmas.Grind.{common_steps}
use Rattle.std.proofs.lemmas.Nat.{mul-le}
use Rattle.std.specs.List.{cons_option}
use Rattle.rpds_branch.proofs.Changing.{changes_are}
use Rattle.rpds_branch.proofs.Touching.{one_looked, told_more}
use Rattle.rpds_branch.specs.Branches.{changes_at, fewest_compared}
use Rattle.rpds_core.proofs.Counts.{within_more, within_same}
use Rattle.rpds_red_black.specs.Logarithm.{most_levels}
use Rattle.rpds_tree.specs.Differences.{change_value}
use Rattle.rpds_branch.proofs.branch.changes.list_of_changes.Goals as goal

pub loop-key-init : goal.loop-key-init
loop-key-init g c =
    let left = changes_at g.K.Ord.cmp g.V.PartialEq.eq c.args.old.now.entries c.args.new.now.entries in
    let touched = c.args.touched.now.entries in
    let start : c.into_iter-key-iterator.result ≡ touched = search rules in
    record {
      told = ap (λ l. map change_value l ++ left c.into_iter-key-iterator.result) c.new-changes.ensures.items ∙ ap left start;
      spent = (0, (omega (arith, ap length start), (within_same _ 0 _, omega arith)));
    }

pub loop-key-preserved : goal.loop-key-preserved
loop-key-preserved g c =
    let left = changes_at g.K.Ord.cmp g.V.PartialEq.eq c.args.old.now.entries c.args.new.now.entries in
    let levels = most_levels (length c.args.old.now.entries) + most_levels (length c.args.new.now.entries) in
    let fewest = fewest_compared c.args.old.now.entries + fewest_compared c.args.new.now.entries in
    let inv = c.loop-key.invariant in
    let items = c.loop-key.changes.items in
    let rest = c.next.new.self in
    let steps = c.in-Some.ensures.steps in
    record {
      told = ap (λ l. map change_value l ++ left rest) c.in_ok-push_some.ensures ∙ told_more change_value items c.change_of.result (left rest)
          ∙ ap (λ d. map change_value items ++ cons_option d (left rest)) c.change_of.ensures.change
          ∙ ap (λ l. map change_value items ++ left l) (sym steps) ∙ inv.told;
      spent = (
        inv.spent.0 + 1,
        (
          omega (arith, inv.spent.1.0, ap length steps),
          (
            one_looked inv.spent.0 levels inv.spent.1.1.0 c.change_of.ensures.steps,
            omega (arith, inv.spent.1.1.1, c.change_of.ensures.compares, add-mul inv.spent.0 1 fewest, one-mul fewest),
          ),
        ),
      );
    }

pub returns-in_err-push_some-clause-steps : goal.returns-in_err-push_some-clause-steps
returns-in_err-push_some-clause-steps g c =
    let levels = most_levels (length c.args.old.now.entries) + most_levels (length c.args.new.now.entries) in
    let inv = c.loop-key.invariant in
    let fewer = ap length c.in-Some.ensures.steps in
    within_more (one_looked inv.spent.0 levels inv.spent.1.1.0 c.change_of.ensures.steps)
    (mul-le (inv.spent.0 + 1) levels (length c.args.touched.now.entries) levels (omega (arith, inv.spent.1.0, fewer)) (omega arith)) (omega arith)

pub returns-clause-all : goal.returns-clause-all
returns-clause-all g c =
    let left = changes_at g.K.Ord.cmp g.V.PartialEq.eq c.args.old.now.entries c.args.new.now.entries in
    let R = g.K.Ord.cmp in
    let es = c.args.old.now.entries in
    let fs = c.args.new.now.entries in
    let touched = c.args.touched.now.entries in
    let told = map change_value c.loop-key.changes.items in
    let done : c.loop-key.key-iterator ≡ [] = grind (arith, common_steps, c.in-None.ensures.steps) in
    sym (append-nil told) ∙ subst (λ l. told ++ left l ≡ left touched) done c.loop-key.invariant.told
    ∙ changes_are g.met.K.Ord.total g.V.PartialEq.eq es fs g.met.V.Eq.laws touched c.iter-key-items.ensures.ordered.ascending
    c.size.ensures.ordered.ascending c.size-2.ensures.ordered.ascending c.requires

pub returns-clause-steps : goal.returns-clause-steps
returns-clause-steps g c =
    let levels = most_levels (length c.args.old.now.entries) + most_levels (length c.args.new.now.entries) in
    let inv = c.loop-key.invariant in
    within_more inv.spent.1.1.0 (mul-le inv.spent.0 levels (length c.args.touched.now.entries) levels (omega (arith, inv.spent.1.0)) (omega arith))
    (omega arith)

pub returns-clause-compares : goal.returns-clause-compares
returns-clause-compares g c =
    let fewest = fewest_compared c.args.old.now.entries + fewest_compared c.args.new.now.entries in
    let inv = c.loop-key.invariant in
    let done : c.loop-key.key-iterator ≡ [] = grind (arith, common_steps, c.in-None.ensures.steps) in
    let all : inv.spent.0 ≡ length c.args.touched.now.entries = omega (arith, inv.spent.1.0, ap length done) in
    omega (arith, inv.spent.1.1.1, ap (λ n. n * fewest) all)
