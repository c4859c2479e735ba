use Rattle.std.proofs.Common.{◌≡◌, ◌&&◌, MatchBool, rules, is_some, ap, subst, sym, ◌∙◌}
use Rattle.std.specs.Option.{option_or}
use Rattle.rpds_red_black.specs.Pairs.{IsAscending, find}
use Rattle.rpds_tree.proofs.UnionWith.{found_by, still_either, united_start, united_step}
use Rattle.rpds_tree.specs.United.{IsUnitedAt}
use Rattle.rpds_tree.proofs.map.red_black_tree_map.RedBlackTreeMap.union_with.Goals as goal

pub loop-key-init : goal.loop-key-init
loop-key-init g c =
    let R = g.K.Ord.cmp in
    let ours = c.args.self.now.entries in
    let theirs = c.args.other.now.entries in
    let start : c.into_iter-key-iterator.result ≡ c.smaller.result.now.entries = search rules in
    record {
      ascending = subst (IsAscending R) (sym start) c.iter-key-items.ensures.ordered.ascending;
      callable = c.requires.callable;
      pairs = λ k. united_start g.met.K.Ord.total g.F.Fn c.args.combine ours theirs c.into_iter-key-iterator.result c.in_ok-map.map.entries
          (λ k none. c.smaller.ensures k (ap (find R k) (sym start) ∙ none)) c.in_ok-map.ensures.found k;
    }

pub put_combined-requires-clause-united : goal.put_combined-requires-clause-united
put_combined-requires-clause-united g c =
    let R = g.K.Ord.cmp in
    let ours = c.args.self.now.entries in
    let theirs = c.args.other.now.entries in
    let was = c.loop-key.map.entries in
    let x : g.row.K.Denot × g.row.V.Denot = (c.in-Some.key.now, c.in-Some.field-0-1.now) in
    let rest = c.next.new.self in
    still_either g.met.K.Ord.total g.F.Fn c.args.combine ours theirs x rest was
    (subst (λ l. MatchBool (is_some (find R x.0 l)) (find R x.0 was ≡ option_or (find R x.0 ours) (find R x.0 theirs))
    (IsUnitedAt g.F.Fn c.args.combine (find R x.0 ours) (find R x.0 theirs) (find R x.0 was))) c.in-Some.ensures.steps (c.loop-key.invariant.pairs x.0))

pub loop-key-preserved : goal.loop-key-preserved
loop-key-preserved g c =
    let R = g.K.Ord.cmp in
    let ours = c.args.self.now.entries in
    let theirs = c.args.other.now.entries in
    let was = c.loop-key.map.entries in
    let inv = c.loop-key.invariant in
    let x : g.row.K.Denot × g.row.V.Denot = (c.in-Some.key.now, c.in-Some.field-0-1.now) in
    let steps = c.in-Some.ensures.steps in
    let up = subst (IsAscending R) steps inv.ascending in
    record {
      ascending = up.1;
      callable = inv.callable;
      pairs = λ k. united_step g.met.K.Ord.total g.F.Fn c.args.combine ours theirs x c.next.new.self was c.put_combined.new.self.entries k up
          (subst (λ l. MatchBool (is_some (find R k l)) (find R k was ≡ option_or (find R k ours) (find R k theirs))
          (IsUnitedAt g.F.Fn c.args.combine (find R k ours) (find R k theirs) (find R k was))) steps (inv.pairs k)) (c.in_ok-put_combined.ensures k);
    }
