use Rattle.rpds_tree.proofs.Words.{◌≡◌, true, is_some, ap, sym, subst, ◌∙◌, sorted_tail, IsStrictlySortedBy, find_member, is_subset}
use Rattle.rpds_tree.proofs.SideBySide.{sorted_above, subset_goes_on}
use Rattle.rpds_tree.proofs.set.red_black_tree_set.RedBlackTreeSet.meets_all_in.Goals as goal

pub loop-member-preserved : goal.loop-member-preserved
loop-member-preserved g c =
    let m = c.in-Some.member.now in
    let ms = c.next.new.self in
    let others = c.loop-member.others in
    let inv = c.loop-member.invariant in
    let up = subst (IsStrictlySortedBy g.T.Ord.cmp) c.in-Some.ensures.steps inv.sorted in
    let there : is_some (find_member g.T.Ord.cmp m others) ≡ true = sym c.meets.ensures.found ∙ c.if-not-meets.false in
    let rest = c.meets.ensures.rest c.if-not-meets.false in
    record {
      sorted = sorted_tail g.T.Ord.cmp m ms up;
      others_sorted = sorted_above g.met.T.Ord.total m others c.meets.new.members inv.others_sorted rest;
      same = inv.same ∙ ap (λ l. is_subset g.T.Ord.cmp l others) c.in-Some.ensures.steps ∙ subset_goes_on g.met.T.Ord.total m ms others c.meets.new.members
          up there rest;
    }
