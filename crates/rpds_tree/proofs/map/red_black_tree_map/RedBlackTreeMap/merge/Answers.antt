use Rattle.std.proofs.Common.{◌≡◌, MatchBool, rules, is_some, ap, subst, sym, ◌∙◌}
use Rattle.std.specs.Ordering.{is_eq}
use Rattle.rpds_red_black.specs.OrderedMap.{OrderedMap}
use Rattle.rpds_red_black.specs.Pairs.{IsAscending, find}
use Rattle.rpds_tree.proofs.DifferenceLaws.{ascending_differences, same_of_none}
use Rattle.rpds_tree.proofs.MergeSteps.{merged_step, spared_of, valued}
use Rattle.rpds_tree.specs.Differences.{change_value, differences, value_of}
use Rattle.rpds_tree.specs.Merges.{IsMergedAt, IsResolved}
use Rattle.rpds_tree.proofs.map.red_black_tree_map.RedBlackTreeMap.merge.Goals as goal

pub loop-change-init : goal.loop-change-init
loop-change-init g c =
    let R = g.K.Ord.cmp in
    let same = g.V.PartialEq.eq in
    let o = g.met.K.Ord.total in
    let base = c.args.self.now.entries in
    let ours = c.args.ours.now.entries in
    let theirs = c.args.theirs.now.entries in
    let start : c.into_iter-change-iterator.result ≡ differences R same base theirs = search rules in
    let up = c.diff-change-items.ensures.ordered.ascending in
    record {
      ascending = subst (IsAscending R) (sym start) (ascending_differences o same base theirs up);
      callable = c.requires.callable;
      pairs = λ k. subst (λ (m : OrderedMap g.row.K.Denot g.row.V.Denot). MatchBool (is_some (find R k c.into_iter-change-iterator.result)) (find R k m.entries ≡ find R k ours)
          (IsMergedAt R same g.F.Fn c.args.resolve base ours theirs k (find R k m.entries))) (sym c.in_ok-map.ensures)
          (subst (λ l. MatchBool (is_some (find R k l)) (find R k ours ≡ find R k ours) (IsMergedAt R same g.F.Fn c.args.resolve base ours theirs k (find R k ours)))
          (sym start) (spared_of R same base ours theirs (differences R same base theirs) (λ k none. same_of_none o same base theirs k up none)
          (λ k. IsResolved R g.F.Fn c.args.resolve k (value_of R k base) (value_of R k ours) (value_of R k theirs) (value_of R k ours)) k));
    }

pub loop-change-preserved : goal.loop-change-preserved
loop-change-preserved g c =
    let R = g.K.Ord.cmp in
    let same = g.V.PartialEq.eq in
    let base = c.args.self.now.entries in
    let ours = c.args.ours.now.entries in
    let theirs = c.args.theirs.now.entries in
    let was = c.loop-change.map.entries in
    let inv = c.loop-change.invariant in
    let x = change_value c.in-Some.change in
    let steps = c.in-Some.ensures.steps in
    let up = subst (IsAscending R) steps inv.ascending in
    record {
      ascending = up.1;
      callable = inv.callable;
      pairs = λ k. merged_step g.met.K.Ord.total same base ours theirs x.0 g.F.Fn c.args.resolve x c.next.new.self was c.merge_key_with.new.map.entries k up
          (subst (λ l. MatchBool (is_some (find R k l)) (find R k was ≡ find R k ours) (IsMergedAt R same g.F.Fn c.args.resolve base ours theirs k (find R k was)))
          steps (inv.pairs k))
          (subst (λ j. MatchBool (is_eq (R k j)) (IsMergedAt R same g.F.Fn c.args.resolve base was theirs k (find R k c.merge_key_with.new.map.entries))
          (find R k c.merge_key_with.new.map.entries ≡ find R k was)) c.key_of-key.ensures (c.in_ok-merge_key_with.ensures.ok k));
    }
