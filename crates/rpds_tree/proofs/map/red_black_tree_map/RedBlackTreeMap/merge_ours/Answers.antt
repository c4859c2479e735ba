use Rattle.std.proofs.Common.{◌≡◌, ◌++◌, List, [], ◌∷◌, Bool, Option, append-nil, arith, rules, ap, filter, if◌then◌else◌, is_some, map, subst, sym, ◌∙◌}
use Rattle.std.proofs.lemmas.Grind.{common_steps}
use Rattle.std.specs.Borrow.{Bor}
use Rattle.std.specs.Map.{keys_of}
use Rattle.std.specs.Ordering.{is_eq}
use Rattle.rpds_red_black.specs.OrderedMap.{OrderedMap}
use Rattle.rpds_red_black.specs.Pairs.{IsAscending, find}
use Rattle.rpds_tree.proofs.DifferenceLaws.{ascending_differences, same_of_none}
use Rattle.rpds_tree.proofs.MergeSteps.{none_told, one_told, ours_step, shown_more, spared, still_ours}
use Rattle.rpds_tree.specs.Differences.{change_value, differences}
use Rattle.rpds_tree.specs.Merges.{is_conflict_at, merged_at}
use Rattle.rpds_tree.proofs.map.red_black_tree_map.RedBlackTreeMap.merge_ours.Goals as goal

pub loop-change-init : goal.loop-change-init
loop-change-init g c =
    let R = g.K.Ord.cmp in
    let same = g.V.PartialEq.eq in
    let o = g.met.K.Ord.total in
    let base = c.args.self.now.entries in
    let ours = c.args.ours.now.entries in
    let theirs = c.args.theirs.now.entries in
    let conflict : g.row.K.Denot → Bool = λ j. is_conflict_at R same base ours theirs j in
    let start : c.into_iter-change-iterator.result ≡ differences R same base theirs = search rules in
    let up = c.diff-change-items.ensures.ordered.ascending in
    record {
      ascending = subst (IsAscending R) (sym start) (ascending_differences o same base theirs up);
      pairs = λ k. ap (λ (m : OrderedMap g.row.K.Denot g.row.V.Denot). find R k m.entries) c.in_ok-merged.ensures
          ∙ spared R same base ours theirs (differences R same base theirs) (λ j none. same_of_none o same base theirs j up none) k
          ∙ ap (λ (l : List (g.row.K.Denot × (Option g.row.V.Denot × Option g.row.V.Denot))).
          if is_some (find R k l) then find R k ours else merged_at R same base ours theirs k) (sym start);
      conflicts = ap (λ (l : List (Bor g.row.K.Denot)). map (λ key. key.now) l ++ filter conflict (keys_of c.into_iter-change-iterator.result))
          c.new-conflicts.ensures.items
          ∙ ap (λ (l : List (g.row.K.Denot × (Option g.row.V.Denot × Option g.row.V.Denot))). filter conflict (keys_of l)) start;
    }

pub loop-change-preserved-in-Continue-branch-3 : goal.loop-change-preserved-in-Continue-branch-3
loop-change-preserved-in-Continue-branch-3 g c =
    let R = g.K.Ord.cmp in
    let same = g.V.PartialEq.eq in
    let o = g.met.K.Ord.total in
    let base = c.args.self.now.entries in
    let ours = c.args.ours.now.entries in
    let theirs = c.args.theirs.now.entries in
    let conflict : g.row.K.Denot → Bool = λ j. is_conflict_at R same base ours theirs j in
    let was = c.loop-change.merged.entries in
    let inv = c.loop-change.invariant in
    let x = change_value c.in-Some.change in
    let rest = c.next.new.self in
    let steps = c.in-Some.ensures.steps in
    let up = subst (IsAscending R) steps inv.ascending in
    let before : (k : g.row.K.Denot) → find R k was ≡ (if is_some (find R k (x ∷ rest)) then find R k ours else merged_at R same base ours theirs k) = λ k.
    subst (λ l. find R k was ≡ (if is_some (find R k l) then find R k ours else merged_at R same base ours theirs k)) steps (inv.pairs k) in
    let shown : List (Bor g.row.K.Denot) → List g.row.K.Denot = λ ks. map (λ key. key.now) ks in
    let at = c.key_of-key.ensures in
    let ok : (k : g.row.K.Denot) → find R k c.merge_key.new.map.entries ≡ (if is_eq (R k x.0) then merged_at R same base was theirs k else find R k was) = λ k.
    subst (λ j. find R k c.merge_key.new.map.entries ≡ (if is_eq (R k j) then merged_at R same base was theirs k else find R k was)) at
    (c.in_ok-merge_key.ensures.ok k) in
    let both = c.in_ok-merge_key.ensures.both ∙ ap (λ j. is_conflict_at R same base was theirs j) at in
    let is = sym (still_ours o same base ours theirs x.0 x rest was (before x.0)) ∙ sym both ∙ c.if-branch.true in
    let items = c.loop-change.conflicts.items in
    let told = ap (λ l. l ++ filter conflict (keys_of rest)) (ap shown c.in_ok-push.ensures.items ∙ shown_more items c.key_of-key.result
    ∙ ap (λ j. shown items ++ j ∷ []) at) ∙ one_told conflict x.0 (shown items) (keys_of rest) is
    ∙ ap (λ l. shown items ++ filter conflict (keys_of l)) (sym steps) in
    record {
      ascending = up.1;
      pairs = λ k. ours_step o same base ours theirs x.0 x rest was c.merge_key.new.map.entries k up (before k) (ok k);
      conflicts = told ∙ inv.conflicts;
    }

pub loop-change-preserved : goal.loop-change-preserved
loop-change-preserved g c =
    let R = g.K.Ord.cmp in
    let same = g.V.PartialEq.eq in
    let o = g.met.K.Ord.total in
    let base = c.args.self.now.entries in
    let ours = c.args.ours.now.entries in
    let theirs = c.args.theirs.now.entries in
    let conflict : g.row.K.Denot → Bool = λ j. is_conflict_at R same base ours theirs j in
    let was = c.loop-change.merged.entries in
    let inv = c.loop-change.invariant in
    let x = change_value c.in-Some.change in
    let rest = c.next.new.self in
    let steps = c.in-Some.ensures.steps in
    let up = subst (IsAscending R) steps inv.ascending in
    let before : (k : g.row.K.Denot) → find R k was ≡ (if is_some (find R k (x ∷ rest)) then find R k ours else merged_at R same base ours theirs k) = λ k.
    subst (λ l. find R k was ≡ (if is_some (find R k l) then find R k ours else merged_at R same base ours theirs k)) steps (inv.pairs k) in
    let shown : List (Bor g.row.K.Denot) → List g.row.K.Denot = λ ks. map (λ key. key.now) ks in
    let at = c.key_of-key.ensures in
    let ok : (k : g.row.K.Denot) → find R k c.merge_key.new.map.entries ≡ (if is_eq (R k x.0) then merged_at R same base was theirs k else find R k was) = λ k.
    subst (λ j. find R k c.merge_key.new.map.entries ≡ (if is_eq (R k j) then merged_at R same base was theirs k else find R k was)) at
    (c.in_ok-merge_key.ensures.ok k) in
    let both = c.in_ok-merge_key.ensures.both ∙ ap (λ j. is_conflict_at R same base was theirs j) at in
    let is = sym (still_ours o same base ours theirs x.0 x rest was (before x.0)) ∙ sym both ∙ c.if-branch.false in
    let told = none_told conflict x.0 (shown c.loop-change.conflicts.items) (keys_of rest) is
    ∙ ap (λ l. shown c.loop-change.conflicts.items ++ filter conflict (keys_of l)) (sym steps) in
    record {
      ascending = up.1;
      pairs = λ k. ours_step o same base ours theirs x.0 x rest was c.merge_key.new.map.entries k up (before k) (ok k);
      conflicts = told ∙ inv.conflicts;
    }

pub returns-clause-conflicts : goal.returns-clause-conflicts
returns-clause-conflicts g c =
    let R = g.K.Ord.cmp in
    let same = g.V.PartialEq.eq in
    let o = g.met.K.Ord.total in
    let base = c.args.self.now.entries in
    let ours = c.args.ours.now.entries in
    let theirs = c.args.theirs.now.entries in
    let conflict : g.row.K.Denot → Bool = λ j. is_conflict_at R same base ours theirs j in
    let shown : List g.row.K.Denot = map (λ key. key.now) c.loop-change.conflicts.items in
    let done : c.loop-change.change-iterator ≡ [] = grind (arith, common_steps, c.in-None.ensures.steps) in
    sym (append-nil shown) ∙ subst (λ (l : List (g.row.K.Denot × (Option g.row.V.Denot × Option g.row.V.Denot))). shown ++ filter conflict (keys_of l)
    ≡ filter conflict (keys_of (differences R same base theirs))) done c.loop-change.invariant.conflicts
