use Rattle.std.proofs.Common.{◌≡◌, ◌+◌, ◌*◌, ◌++◌, List, [], ◌∷◌, Bool, append-nil, arith, rules, ap, filter, if◌then◌else◌, is_some, length, map, subst, sym, ◌∙◌}
use Rattle.std.proofs.lemmas.Grind.{common_steps}
use Rattle.std.proofs.lemmas.List.Kept.{IsStrictlySortedBy-filter}
use Rattle.std.specs.Borrow.{Bor}
use Rattle.std.specs.List.Sorted.{IsStrictlySortedBy}
use Rattle.std.specs.Map.{keys_of}
use Rattle.std.specs.Ordering.{is_eq}
use Rattle.rpds_branch.proofs.Merging.{conflicts_are, unchanged}
use Rattle.rpds_branch.proofs.Touching.{all_spent, as_many, below_most, levels_grow, one_more, part_spent}
use Rattle.rpds_branch.specs.Branches.{Branched, SparesOthers, most_pairs}
use Rattle.rpds_core.proofs.Counts.{within_more, within_same}
use Rattle.rpds_core.specs.Counts.{IsWithin}
use Rattle.rpds_red_black.specs.Logarithm.{most_levels}
use Rattle.rpds_tree.proofs.MergeSteps.{none_told, one_told, ours_step, shown_more, spared, still_ours}
use Rattle.rpds_tree.specs.Merges.{is_conflict_at, merged_at}
use Rattle.rpds_tree.specs.OrderedMap.{OrderedMap}
use Rattle.rpds_tree.proofs.Members.{ascending_members}
use Rattle.rpds_tree.specs.OrderedSet.{find_member}
use Rattle.rpds_tree.specs.Pairs.{IsAscending, find}
use Rattle.rpds_branch.proofs.branch.Branch.merge_ours_counted.Goals as goal

pub loop-key-init : goal.loop-key-init
loop-key-init g c =
    let R = g.K.Ord.cmp in
    let same = g.V.PartialEq.eq in
    let o = g.met.K.Ord.total in
    let e = g.met.V.Eq.laws in
    let base = c.args.theirs.now.base.entries in
    let ours = c.args.self.now.current.entries in
    let theirs = c.args.theirs.now.current.entries in
    let touched = c.theirs.inside.touched.entries in
    let conflict : g.row.K.Denot → Bool = λ j. is_conflict_at R same base ours theirs j in
    let start : c.into_iter-key-iterator.result ≡ touched = search rules in
    let spares : SparesOthers R touched base theirs = subst (λ (b : Branched g.row.K.Denot g.row.V.Denot). SparesOthers R touched b.base.entries b.current.entries)
    c.theirs.view_is c.theirs.invariant in
    let up : IsAscending R touched = c.iter-key-items.ensures.ordered.ascending in
    let count = as_many touched (ap (λ (b : Branched g.row.K.Denot g.row.V.Denot). b.touched) c.theirs.view_is) in
    let whole = ap (λ (m : OrderedMap g.row.K.Denot g.row.V.Denot). length m.entries) c.in_ok-current.ensures
    ∙ ap (λ (b : Branched g.row.K.Denot g.row.V.Denot). length b.current.entries) c.self.view_is in
    let all = ap (λ (l : List (Bor g.row.K.Denot)). map (λ key. key.now) l ++ filter conflict (keys_of c.into_iter-key-iterator.result)) c.new-conflicts.ensures.items
    ∙ ap (λ (l : List (g.row.K.Denot × g.row.V.Denot)). filter conflict (keys_of l)) start in
    record {
      ascending = subst (IsAscending R) (sym start) up;
      pairs = λ k. ap (λ (m : OrderedMap g.row.K.Denot g.row.V.Denot). find R k m.entries) c.in_ok-current.ensures
          ∙ ap (λ (b : Branched g.row.K.Denot g.row.V.Denot). find R k b.current.entries) c.self.view_is ∙ spared R same base ours theirs touched (unchanged R e touched base theirs spares) k
          ∙ ap (λ (l : List (g.row.K.Denot × g.row.V.Denot)). if is_some (find R k l) then find R k ours else merged_at R same base ours theirs k) (sym start);
      conflicts = λ k. ap (λ l. is_some (find_member R k l)) all ∙ conflicts_are o e base ours theirs touched spares k;
      sorted = subst (IsStrictlySortedBy R) (sym all) (IsStrictlySortedBy-filter R conflict (keys_of touched) (ascending_members R touched up));
      size = omega (arith, whole, ap length start, count);
      spent = (0, (omega (arith, ap length start, count), within_same _ _ _));
    }

pub loop-key-preserved-in-Continue-branch-3 : goal.loop-key-preserved-in-Continue-branch-3
loop-key-preserved-in-Continue-branch-3 g c =
    let R = g.K.Ord.cmp in
    let same = g.V.PartialEq.eq in
    let o = g.met.K.Ord.total in
    let base = c.args.theirs.now.base.entries in
    let ours = c.args.self.now.current.entries in
    let theirs = c.args.theirs.now.current.entries in
    let was = c.loop-key.current.entries in
    let inv = c.loop-key.invariant in
    let x : g.row.K.Denot × g.row.V.Denot = (c.in-Some.key.now, c.in-Some.field-0-1.now) in
    let rest = c.next.new.self in
    let steps = c.in-Some.ensures.steps in
    let up = subst (IsAscending R) steps inv.ascending in
    let before : (k : g.row.K.Denot) → find R k was ≡ (if is_some (find R k (x ∷ rest)) then find R k ours else merged_at R same base ours theirs k) = λ k.
    subst (λ l. find R k was ≡ (if is_some (find R k l) then find R k ours else merged_at R same base ours theirs k)) steps (inv.pairs k) in
    let shown : List (Bor g.row.K.Denot) → List g.row.K.Denot = λ ks. map (λ key. key.now) ks in
    let ok : (k : g.row.K.Denot) → find R k c.merge_key.new.map.entries ≡ (if is_eq (R k x.0) then merged_at R same base was theirs k else find R k was) = λ k.
    subst (λ (b : Branched g.row.K.Denot g.row.V.Denot). find R k c.merge_key.new.map.entries
    ≡ (if is_eq (R k x.0) then merged_at R same b.base.entries was b.current.entries k else find R k was)) c.theirs.view_is (c.in_ok-merge_key.ensures.ok k) in
    let k = length c.args.theirs.now.touched in
    let most = most_levels (length ours + k) in
    let p = most_levels (length base) + 2 * (most_levels (length theirs) + most) in
    let q = 4 * most + 1 in
    let base_is = ap (λ (b : Branched g.row.K.Denot g.row.V.Denot). most_levels (length b.base.entries)) c.theirs.view_is in
    let theirs_is = ap (λ (b : Branched g.row.K.Denot g.row.V.Denot). most_levels (length b.current.entries)) c.theirs.view_is in
    let fewer = ap length steps in
    let low = levels_grow (length was) (length ours + k) (omega (arith, inv.size, fewer)) in
    let here : IsWithin p q _ _ = within_more c.in_ok-merge_key.ensures.steps (omega (arith, base_is, theirs_is, low)) (omega (arith, low)) in
    let both = c.in_ok-merge_key.ensures.both
    ∙ ap (λ (b : Branched g.row.K.Denot g.row.V.Denot). is_conflict_at R same b.base.entries was b.current.entries x.0) c.theirs.view_is in
    let is = sym (still_ours o same base ours theirs x.0 x rest was (before x.0)) ∙ sym both ∙ c.if-branch.true in
    let told = ap (λ l. l ++ filter (λ j. is_conflict_at R same base ours theirs j) (keys_of rest)) (ap shown c.in_ok-push.ensures.items ∙ shown_more c.loop-key.conflicts.items c.in-Some.key)
    ∙ one_told (λ j. is_conflict_at R same base ours theirs j) x.0 (shown c.loop-key.conflicts.items) (keys_of rest) is
    ∙ ap (λ l. shown c.loop-key.conflicts.items ++ filter (λ j. is_conflict_at R same base ours theirs j) (keys_of l)) (sym steps) in
    record {
      ascending = up.1;
      pairs = λ k. ours_step o same base ours theirs x.0 x rest was c.merge_key.new.map.entries k up (before k) (ok k);
      conflicts = λ k. subst (λ l. is_some (find_member R k l) ≡ is_conflict_at R same base ours theirs k) (sym told) (inv.conflicts k);
      sorted = subst (IsStrictlySortedBy R) (sym told) inv.sorted;
      size = omega (arith, inv.size, fewer, c.in_ok-merge_key.ensures.more);
      spent = (inv.spent.0 + 1, (omega (arith, inv.spent.1.0, fewer), one_more inv.spent.0 p q inv.spent.1.1 here));
    }

pub loop-key-preserved : goal.loop-key-preserved
loop-key-preserved g c =
    let R = g.K.Ord.cmp in
    let same = g.V.PartialEq.eq in
    let o = g.met.K.Ord.total in
    let base = c.args.theirs.now.base.entries in
    let ours = c.args.self.now.current.entries in
    let theirs = c.args.theirs.now.current.entries in
    let was = c.loop-key.current.entries in
    let inv = c.loop-key.invariant in
    let x : g.row.K.Denot × g.row.V.Denot = (c.in-Some.key.now, c.in-Some.field-0-1.now) in
    let rest = c.next.new.self in
    let steps = c.in-Some.ensures.steps in
    let up = subst (IsAscending R) steps inv.ascending in
    let before : (k : g.row.K.Denot) → find R k was ≡ (if is_some (find R k (x ∷ rest)) then find R k ours else merged_at R same base ours theirs k) = λ k.
    subst (λ l. find R k was ≡ (if is_some (find R k l) then find R k ours else merged_at R same base ours theirs k)) steps (inv.pairs k) in
    let shown : List (Bor g.row.K.Denot) → List g.row.K.Denot = λ ks. map (λ key. key.now) ks in
    let ok : (k : g.row.K.Denot) → find R k c.merge_key.new.map.entries ≡ (if is_eq (R k x.0) then merged_at R same base was theirs k else find R k was) = λ k.
    subst (λ (b : Branched g.row.K.Denot g.row.V.Denot). find R k c.merge_key.new.map.entries
    ≡ (if is_eq (R k x.0) then merged_at R same b.base.entries was b.current.entries k else find R k was)) c.theirs.view_is (c.in_ok-merge_key.ensures.ok k) in
    let k = length c.args.theirs.now.touched in
    let most = most_levels (length ours + k) in
    let p = most_levels (length base) + 2 * (most_levels (length theirs) + most) in
    let q = 4 * most + 1 in
    let base_is = ap (λ (b : Branched g.row.K.Denot g.row.V.Denot). most_levels (length b.base.entries)) c.theirs.view_is in
    let theirs_is = ap (λ (b : Branched g.row.K.Denot g.row.V.Denot). most_levels (length b.current.entries)) c.theirs.view_is in
    let fewer = ap length steps in
    let low = levels_grow (length was) (length ours + k) (omega (arith, inv.size, fewer)) in
    let here : IsWithin p q _ _ = within_more c.in_ok-merge_key.ensures.steps (omega (arith, base_is, theirs_is, low)) (omega (arith, low)) in
    let both = c.in_ok-merge_key.ensures.both
    ∙ ap (λ (b : Branched g.row.K.Denot g.row.V.Denot). is_conflict_at R same b.base.entries was b.current.entries x.0) c.theirs.view_is in
    let is = sym (still_ours o same base ours theirs x.0 x rest was (before x.0)) ∙ sym both ∙ c.if-branch.false in
    let told = none_told (λ j. is_conflict_at R same base ours theirs j) x.0 (shown c.loop-key.conflicts.items) (keys_of rest) is
    ∙ ap (λ l. shown c.loop-key.conflicts.items ++ filter (λ j. is_conflict_at R same base ours theirs j) (keys_of l)) (sym steps) in
    record {
      ascending = up.1;
      pairs = λ k. ours_step o same base ours theirs x.0 x rest was c.merge_key.new.map.entries k up (before k) (ok k);
      conflicts = λ k. subst (λ l. is_some (find_member R k l) ≡ is_conflict_at R same base ours theirs k) (sym told) (inv.conflicts k);
      sorted = subst (IsStrictlySortedBy R) (sym told) inv.sorted;
      size = omega (arith, inv.size, fewer, c.in_ok-merge_key.ensures.more);
      spent = (inv.spent.0 + 1, (omega (arith, inv.spent.1.0, fewer), one_more inv.spent.0 p q inv.spent.1.1 here));
    }

pub returns-clause-conflicts : goal.returns-clause-conflicts
returns-clause-conflicts g c = λ k.
    let R = g.K.Ord.cmp in
    let here : g.row.K.Denot → Bool = λ j. is_conflict_at R g.V.PartialEq.eq c.args.theirs.now.base.entries c.args.self.now.current.entries c.args.theirs.now.current.entries j in
    let shown : List g.row.K.Denot = map (λ key. key.now) c.loop-key.conflicts.items in
    let done : c.loop-key.key-iterator ≡ [] = grind (arith, common_steps, c.in-None.ensures.steps) in
    subst (λ l. is_some (find_member R k l) ≡ here k) (append-nil shown)
    (subst (λ (l : List (g.row.K.Denot × g.row.V.Denot)). is_some (find_member R k (shown ++ filter here (keys_of l))) ≡ here k) done (c.loop-key.invariant.conflicts k))

pub returns-in_err-current-clause-steps : goal.returns-in_err-current-clause-steps
returns-in_err-current-clause-steps g c = within_same _ _ _

pub returns-in_err-merge_key-clause-steps : goal.returns-in_err-merge_key-clause-steps
returns-in_err-merge_key-clause-steps g c =
    let ours = length c.args.self.now.current.entries in
    let k = length c.args.theirs.now.touched in
    let before = length c.args.theirs.now.base.entries in
    let after = length c.args.theirs.now.current.entries in
    let most = most_levels (ours + k) in
    let p = most_levels before + 2 * (most_levels after + most) in
    let q = 4 * most + 1 in
    let n = most_pairs c.args.self.now c.args.theirs.now in
    let below = below_most ours (length c.args.self.now.touched) k before after in
    let a = levels_grow (ours + k) n below.0 in
    let u = levels_grow (length c.args.self.now.touched + k) n below.1.0 in
    let d = levels_grow before n below.1.1.0 in
    let e = levels_grow after n below.1.1.1 in
    let inv = c.loop-key.invariant in
    let base_is = ap (λ (b : Branched g.row.K.Denot g.row.V.Denot). most_levels (length b.base.entries)) c.theirs.view_is in
    let theirs_is = ap (λ (b : Branched g.row.K.Denot g.row.V.Denot). most_levels (length b.current.entries)) c.theirs.view_is in
    let fewer = ap length c.in-Some.ensures.steps in
    let low = levels_grow (length c.loop-key.current.entries) (ours + k) (omega (arith, inv.size, fewer)) in
    let here : IsWithin p q _ _ = within_more c.in_err-merge_key.ensures.steps (omega (arith, base_is, theirs_is, low)) (omega (arith, low)) in
    part_spent (inv.spent.0 + 1) k p q (6 * most_levels n) (13 * most_levels n + 4) (omega (arith, inv.spent.1.0, fewer))
    (one_more inv.spent.0 p q inv.spent.1.1 here) (omega (arith, a, d, e)) (omega (arith, a))

pub returns-in_err-push-clause-steps : goal.returns-in_err-push-clause-steps
returns-in_err-push-clause-steps g c =
    let ours = length c.args.self.now.current.entries in
    let k = length c.args.theirs.now.touched in
    let before = length c.args.theirs.now.base.entries in
    let after = length c.args.theirs.now.current.entries in
    let most = most_levels (ours + k) in
    let p = most_levels before + 2 * (most_levels after + most) in
    let q = 4 * most + 1 in
    let n = most_pairs c.args.self.now c.args.theirs.now in
    let below = below_most ours (length c.args.self.now.touched) k before after in
    let a = levels_grow (ours + k) n below.0 in
    let u = levels_grow (length c.args.self.now.touched + k) n below.1.0 in
    let d = levels_grow before n below.1.1.0 in
    let e = levels_grow after n below.1.1.1 in
    let inv = c.loop-key.invariant in
    let base_is = ap (λ (b : Branched g.row.K.Denot g.row.V.Denot). most_levels (length b.base.entries)) c.theirs.view_is in
    let theirs_is = ap (λ (b : Branched g.row.K.Denot g.row.V.Denot). most_levels (length b.current.entries)) c.theirs.view_is in
    let fewer = ap length c.in-Some.ensures.steps in
    let low = levels_grow (length c.loop-key.current.entries) (ours + k) (omega (arith, inv.size, fewer)) in
    let here : IsWithin p q _ _ = within_more c.in_ok-merge_key.ensures.steps (omega (arith, base_is, theirs_is, low)) (omega (arith, low)) in
    part_spent (inv.spent.0 + 1) k p q (6 * most_levels n) (13 * most_levels n + 4) (omega (arith, inv.spent.1.0, fewer))
    (one_more inv.spent.0 p q inv.spent.1.1 here) (omega (arith, a, d, e)) (omega (arith, a))

pub returns-in_err-branch-clause-steps : goal.returns-in_err-branch-clause-steps
returns-in_err-branch-clause-steps g c =
    let ours = length c.args.self.now.current.entries in
    let k = length c.args.theirs.now.touched in
    let before = length c.args.theirs.now.base.entries in
    let after = length c.args.theirs.now.current.entries in
    let most = most_levels (ours + k) in
    let p = most_levels before + 2 * (most_levels after + most) in
    let q = 4 * most + 1 in
    let n = most_pairs c.args.self.now c.args.theirs.now in
    let below = below_most ours (length c.args.self.now.touched) k before after in
    let a = levels_grow (ours + k) n below.0 in
    let u = levels_grow (length c.args.self.now.touched + k) n below.1.0 in
    let d = levels_grow before n below.1.1.0 in
    let e = levels_grow after n below.1.1.1 in
    let inv = c.loop-key.invariant in
    all_spent inv.spent.0 k p q (6 * most_levels n) (13 * most_levels n + 4) (omega (arith, inv.spent.1.0)) inv.spent.1.1
    (most_levels (length c.args.self.now.touched + k)) (omega (arith, a, d, e, u)) (omega (arith, a, u)) c.in_err-branch.ensures.steps

pub returns-clause-steps : goal.returns-clause-steps
returns-clause-steps g c =
    let ours = length c.args.self.now.current.entries in
    let k = length c.args.theirs.now.touched in
    let before = length c.args.theirs.now.base.entries in
    let after = length c.args.theirs.now.current.entries in
    let most = most_levels (ours + k) in
    let p = most_levels before + 2 * (most_levels after + most) in
    let q = 4 * most + 1 in
    let n = most_pairs c.args.self.now c.args.theirs.now in
    let below = below_most ours (length c.args.self.now.touched) k before after in
    let a = levels_grow (ours + k) n below.0 in
    let u = levels_grow (length c.args.self.now.touched + k) n below.1.0 in
    let d = levels_grow before n below.1.1.0 in
    let e = levels_grow after n below.1.1.1 in
    let inv = c.loop-key.invariant in
    all_spent inv.spent.0 k p q (6 * most_levels n) (13 * most_levels n + 4) (omega (arith, inv.spent.1.0)) inv.spent.1.1
    (most_levels (length c.args.self.now.touched + k)) (omega (arith, a, d, e, u)) (omega (arith, a, u)) c.in_ok-branch.ensures.steps

pub returns-clause-compares : goal.returns-clause-compares
returns-clause-compares g c = λ our their. omega (arith, c.loop-key.invariant.spent.1.1.compared_least, c.in_ok-branch.ensures.compares our their)
