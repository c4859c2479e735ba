use Rattle.std.proofs.Common.{◌≡◌, MatchBool, ap, subst, sym, ◌∙◌}
use Rattle.std.proofs.lemmas.Result.{on_ok_weaker}
use Rattle.std.specs.Ordering.{is_eq}
use Rattle.rpds_red_black.specs.Pairs.{find, put}
use Rattle.rpds_tree.proofs.UnionWith.{combined_at, combines}
use Rattle.rpds_tree.specs.United.{IsUnitedAt}
use Rattle.rpds_tree.proofs.map.red_black_tree_map.RedBlackTreeMap.put_combined.Goals as goal

pub returns : goal.returns
returns g c =
    let R = g.K.Ord.cmp in
    let o = g.met.K.Ord.total in
    let key = c.args.key.now in
    let was = c.args.self.now.entries in
    let ours = c.args.ours.now.entries in
    let theirs = c.args.theirs.now.entries in
    let p : g.row.K.Denot × g.row.V.Denot = (c.in-Some.stored.now, c.in-Some.our.now) in
    let value = c.in_ok-value.value in
    let says = combines o g.F.Fn c.args.combine.now ours theirs c.in-Some.stored c.in-Some.our c.in-Some-get.their value c.in_ok-value.ensures in
    let same = c.requires.clone_keys p.0 c.in_ok-clone.field-0 c.in_ok-clone.ensures.cases in
    on_ok_weaker c.insert_mut.result (λ is k. subst
    (λ es. MatchBool (is_eq (R k key)) (IsUnitedAt g.F.Fn c.args.combine.now (find R k ours) (find R k theirs) (find R k es)) (find R k es ≡ find R k was))
    (sym (is ∙ ap (λ j. put R (j, value) was) same))
    (combined_at o g.F.Fn c.args.combine.now ours theirs key p c.in-Some-get.their.now (sym c.in-Some.ensures) (sym c.in-Some-get.ensures) value says was k))
    c.insert_mut.ensures.ok
