use Rattle.std.proofs.Common.{◌≡◌, ◌+◌, ◌*◌, [], MatchBool, arith, rules, ap, is_some, length, subst, sym, ◌∙◌}
use Rattle.std.proofs.lemmas.Grind.{common_steps}
use Rattle.std.proofs.lemmas.Result.{IfOk-weaker}
use Rattle.std.specs.Ordering.{is_eq}
use Rattle.rpds_branch.proofs.Merging.{unchanged}
use Rattle.rpds_branch.proofs.Touching.{all_spent, as_many, below_most, levels_grow, one_more, part_spent, then_ok}
use Rattle.rpds_branch.specs.Branches.{Branched, SparesOthers, most_pairs}
use Rattle.rpds_core.proofs.Counts.{within_more, within_same}
use Rattle.rpds_core.specs.Counts.{IsWithin}
use Rattle.rpds_red_black.specs.Logarithm.{most_levels}
use Rattle.rpds_tree.proofs.MergeSteps.{merged_step, spared_of, valued}
use Rattle.rpds_tree.specs.Differences.{value_of}
use Rattle.rpds_tree.specs.Merges.{IsMergedAt, IsResolved}
use Rattle.rpds_tree.specs.OrderedMap.{OrderedMap}
use Rattle.rpds_tree.specs.Pairs.{IsAscending, find}
use Rattle.rpds_branch.proofs.branch.Branch.merge_counted.Goals as goal

pub loop-key-init : goal.loop-key-init
loop-key-init g c =
    let R = g.K.Ord.cmp in
    let same = g.V.PartialEq.eq in
    let base = c.args.theirs.now.base.entries in
    let ours = c.args.self.now.current.entries in
    let theirs = c.args.theirs.now.current.entries in
    let touched = c.theirs.inside.touched.entries in
    let start : c.into_iter-key-iterator.result ≡ touched = search rules in
    let spares : SparesOthers R touched base theirs = subst (λ (b : Branched g.row.K.Denot g.row.V.Denot). SparesOthers R touched b.base.entries b.current.entries)
    c.theirs.view_is c.theirs.invariant in
    let mine : c.in_ok-current.current.entries ≡ ours = ap (λ (m : OrderedMap g.row.K.Denot g.row.V.Denot). m.entries) c.in_ok-current.ensures
    ∙ ap (λ (b : Branched g.row.K.Denot g.row.V.Denot). b.current.entries) c.self.view_is in
    let count = as_many touched (ap (λ (b : Branched g.row.K.Denot g.row.V.Denot). b.touched) c.theirs.view_is) in
    record {
      ascending = subst (IsAscending R) (sym start) c.iter-key-items.ensures.ordered.ascending;
      callable = c.requires.callable;
      pairs = λ k. subst (λ l. MatchBool (is_some (find R k l)) (find R k c.in_ok-current.current.entries ≡ find R k ours)
          (IsMergedAt R same g.F.Fn c.args.resolve base ours theirs k (find R k c.in_ok-current.current.entries))) (sym start)
          (subst (λ m. MatchBool (is_some (find R k touched)) (find R k m ≡ find R k ours) (IsMergedAt R same g.F.Fn c.args.resolve base ours theirs k (find R k m)))
          (sym mine) (spared_of R same base ours theirs touched (unchanged R g.met.V.Eq.laws touched base theirs spares)
          (λ k. IsResolved R g.F.Fn c.args.resolve k (value_of R k base) (value_of R k ours) (value_of R k theirs) (value_of R k ours)) k));
      size = omega (arith, ap length mine, ap length start, count);
      spent = (0, (omega (arith, ap length start, count), within_same _ _ _));
    }

pub loop-key-preserved : goal.loop-key-preserved
loop-key-preserved g c =
    let R = g.K.Ord.cmp in
    let same = g.V.PartialEq.eq in
    let base = c.args.theirs.now.base.entries in
    let ours = c.args.self.now.current.entries in
    let theirs = c.args.theirs.now.current.entries in
    let was = c.loop-key.current.entries in
    let inv = c.loop-key.invariant in
    let x : g.row.K.Denot × g.row.V.Denot = (c.in-Some.key.now, c.in-Some.field-0-1.now) in
    let steps = c.in-Some.ensures.steps in
    let up = subst (IsAscending R) steps inv.ascending in
    let ok : (k : g.row.K.Denot) → MatchBool (is_eq (R k x.0)) (IsMergedAt R same g.F.Fn c.args.resolve base was theirs k (find R k c.merge_key_with.new.map.entries))
    (find R k c.merge_key_with.new.map.entries ≡ find R k was) = λ k.
    subst (λ (b : Branched g.row.K.Denot g.row.V.Denot). MatchBool (is_eq (R k x.0))
    (IsMergedAt R same g.F.Fn c.args.resolve b.base.entries was b.current.entries k (find R k c.merge_key_with.new.map.entries))
    (find R k c.merge_key_with.new.map.entries ≡ find R k was)) c.theirs.view_is (c.in_ok-merge_key_with.ensures.ok k) in
    let k = length c.args.theirs.now.touched in
    let most = most_levels (length ours + k) in
    let p = 2 * most_levels (length base) + 3 * most_levels (length theirs) + 4 * most in
    let q = 8 * most + 2 in
    let base_is = ap (λ (b : Branched g.row.K.Denot g.row.V.Denot). most_levels (length b.base.entries)) c.theirs.view_is in
    let theirs_is = ap (λ (b : Branched g.row.K.Denot g.row.V.Denot). most_levels (length b.current.entries)) c.theirs.view_is in
    let fewer = ap length steps in
    let low = levels_grow (length was) (length ours + k) (omega (arith, inv.size, fewer)) in
    let here : IsWithin p q _ _ = within_more c.in_ok-merge_key_with.ensures.steps (omega (arith, base_is, theirs_is, low)) (omega (arith, low)) in
    record {
      ascending = up.1;
      callable = inv.callable;
      pairs = λ k. merged_step g.met.K.Ord.total same base ours theirs x.0 g.F.Fn c.args.resolve x c.next.new.self was
          c.merge_key_with.new.map.entries k up
          (subst (λ l. MatchBool (is_some (find R k l)) (find R k was ≡ find R k ours) (IsMergedAt R same g.F.Fn c.args.resolve base ours theirs k (find R k was)))
          steps (inv.pairs k)) (ok k);
      size = omega (arith, inv.size, fewer, c.in_ok-merge_key_with.ensures.more);
      spent = (inv.spent.0 + 1, (omega (arith, inv.spent.1.0, fewer), one_more inv.spent.0 p q inv.spent.1.1 here));
    }

pub returns-clause-values : goal.returns-clause-values
returns-clause-values g c =
    let R = g.K.Ord.cmp in
    let same = g.V.PartialEq.eq in
    let base = c.args.theirs.now.base.entries in
    let ours = c.args.self.now.current.entries in
    let theirs = c.args.theirs.now.current.entries in
    let made = c.loop-key.current.entries in
    let done : c.loop-key.key-iterator ≡ [] = grind (arith, common_steps, c.in-None.ensures.steps) in
    let pairs : (k : g.row.K.Denot) → IsMergedAt R same g.F.Fn c.args.resolve base ours theirs k (find R k made) = λ k.
    subst (λ l. MatchBool (is_some (find R k l)) (find R k made ≡ find R k ours) (IsMergedAt R same g.F.Fn c.args.resolve base ours theirs k (find R k made)))
    done (c.loop-key.invariant.pairs k) in
    IfOk-weaker c.with_merged.result _ _ (λ m is h settles k. ap (λ (n : OrderedMap g.row.K.Denot g.row.V.Denot). value_of R k n.entries) is
    ∙ valued g.met.K.Ord.total same base ours theirs k g.F.Fn c.args.resolve h settles k (find R k made) (pairs k)) c.with_merged.ensures.current

pub returns-in_err-current-clause-steps : goal.returns-in_err-current-clause-steps
returns-in_err-current-clause-steps g c = within_same _ _ _

pub returns-in_err-merge_key_with-clause-steps : goal.returns-in_err-merge_key_with-clause-steps
returns-in_err-merge_key_with-clause-steps g c =
    let ours = length c.args.self.now.current.entries in
    let k = length c.args.theirs.now.touched in
    let before = length c.args.theirs.now.base.entries in
    let after = length c.args.theirs.now.current.entries in
    let most = most_levels (ours + k) in
    let p = 2 * most_levels before + 3 * most_levels after + 4 * most in
    let q = 8 * most + 2 in
    let n = most_pairs c.args.self.now c.args.theirs.now in
    let below = below_most ours (length c.args.self.now.touched) k before after in
    let a = levels_grow (ours + k) n below.0 in
    let u = levels_grow (length c.args.self.now.touched + k) n below.1.0 in
    let d = levels_grow before n below.1.1.0 in
    let e = levels_grow after n below.1.1.1 in
    let inv = c.loop-key.invariant in
    let base_is = ap (λ (b : Branched g.row.K.Denot g.row.V.Denot). most_levels (length b.base.entries)) c.theirs.view_is in
    let theirs_is = ap (λ (b : Branched g.row.K.Denot g.row.V.Denot). most_levels (length b.current.entries)) c.theirs.view_is in
    let fewer = ap length c.in-Some.ensures.steps in
    let low = levels_grow (length c.loop-key.current.entries) (ours + k) (omega (arith, inv.size, fewer)) in
    let here : IsWithin p q _ _ = within_more c.in_err-merge_key_with.ensures.steps (omega (arith, base_is, theirs_is, low)) (omega (arith, low)) in
    part_spent (inv.spent.0 + 1) k p q (10 * most_levels n) (17 * most_levels n + 5) (omega (arith, inv.spent.1.0, fewer))
    (one_more inv.spent.0 p q inv.spent.1.1 here) (omega (arith, a, d, e)) (omega (arith, a))

pub returns-clause-steps : goal.returns-clause-steps
returns-clause-steps g c =
    let ours = length c.args.self.now.current.entries in
    let k = length c.args.theirs.now.touched in
    let before = length c.args.theirs.now.base.entries in
    let after = length c.args.theirs.now.current.entries in
    let most = most_levels (ours + k) in
    let p = 2 * most_levels before + 3 * most_levels after + 4 * most in
    let q = 8 * most + 2 in
    let n = most_pairs c.args.self.now c.args.theirs.now in
    let below = below_most ours (length c.args.self.now.touched) k before after in
    let a = levels_grow (ours + k) n below.0 in
    let u = levels_grow (length c.args.self.now.touched + k) n below.1.0 in
    let d = levels_grow before n below.1.1.0 in
    let e = levels_grow after n below.1.1.1 in
    let inv = c.loop-key.invariant in
    all_spent inv.spent.0 k p q (10 * most_levels n) (17 * most_levels n + 5) (omega (arith, inv.spent.1.0)) inv.spent.1.1
    (most_levels (length c.args.self.now.touched + k)) (omega (arith, a, d, e, u)) (omega (arith, a, u)) c.with_merged.ensures.steps

pub returns-clause-compares : goal.returns-clause-compares
returns-clause-compares g c = then_ok c.with_merged.result (λ more our their. omega (arith, c.loop-key.invariant.spent.1.1.compared_least, more our their))
    c.with_merged.ensures.compares
