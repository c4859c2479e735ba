use Rattle.rpds_tree.proofs.Words.{◌≡◌, true, false, Some, ap, sym, subst, ◌∙◌, sorted_tail, IsStrictlySortedBy, is_eq, is_lt, is_disjoint}
use Rattle.rpds_tree.proofs.SideBySide.{pending, took, disjoint_from_none, disjoint_greater, disjoint_lesser}
use Rattle.rpds_tree.proofs.set.red_black_tree_set.RedBlackTreeSet.meets_none_of.Goals as goal

pub loop-next-preserved-then-is_lt : goal.loop-next-preserved-then-is_lt
loop-next-preserved-then-is_lt g c =
    let m = c.in-Some-Some.member.now in
    let other = c.in-Some-Some.found.now in
    let ms = c.loop-next.members in
    let others = c.loop-next.others in
    let inv = c.loop-next.invariant in
    let here : c.loop-next.next ≡ Some c.in-Some-Some.member = c.in-Some-Some.is-0 in
    let there : c.loop-next.next_other ≡ Some c.in-Some-Some.found = c.in-Some-Some.is-1 in
    let up = subst (λ n. IsStrictlySortedBy g.T.Ord.cmp (pending n ms)) here inv.sorted in
    let others_up = subst (λ n. IsStrictlySortedBy g.T.Ord.cmp (pending n others)) there inv.others_sorted in
    let next = took ms c.next-next-then-is_lt.result c.next-next-then-is_lt.new.self c.next-next-then-is_lt.ensures.steps in
    let less : is_lt (g.T.Ord.cmp m other) ≡ true = ap is_lt (sym c.cmp-order.ensures) ∙ sym c.is_lt.ensures ∙ c.if-is_lt.true in
    record {
      sorted = subst (IsStrictlySortedBy g.T.Ord.cmp) next (sorted_tail g.T.Ord.cmp m ms up);
      others_sorted = inv.others_sorted;
      same =
          inv.same ∙ (λ i. is_disjoint g.T.Ord.cmp (pending (here i) ms) (pending (there i) others))
          ∙ disjoint_lesser g.met.T.Ord.total m other ms others others_up less
          ∙ (λ i. is_disjoint g.T.Ord.cmp (next i) (pending (sym there i) others));
    }

pub loop-next-preserved : goal.loop-next-preserved
loop-next-preserved g c =
    let m = c.in-Some-Some.member.now in
    let other = c.in-Some-Some.found.now in
    let ms = c.loop-next.members in
    let others = c.loop-next.others in
    let inv = c.loop-next.invariant in
    let here : c.loop-next.next ≡ Some c.in-Some-Some.member = c.in-Some-Some.is-0 in
    let there : c.loop-next.next_other ≡ Some c.in-Some-Some.found = c.in-Some-Some.is-1 in
    let up = subst (λ n. IsStrictlySortedBy g.T.Ord.cmp (pending n ms)) here inv.sorted in
    let others_up = subst (λ n. IsStrictlySortedBy g.T.Ord.cmp (pending n others)) there inv.others_sorted in
    let next = took others c.next-next_other-else-is_lt.result c.next-next_other-else-is_lt.new.self c.next-next_other-else-is_lt.ensures.steps in
    let not_equal : is_eq (g.T.Ord.cmp m other) ≡ false = ap is_eq (sym c.cmp-order.ensures) ∙ sym c.is_eq.ensures ∙ c.if-is_eq.false in
    let not_less : is_lt (g.T.Ord.cmp m other) ≡ false = ap is_lt (sym c.cmp-order.ensures) ∙ sym c.is_lt.ensures ∙ c.if-is_lt.false in
    record {
      sorted = inv.sorted;
      others_sorted = subst (IsStrictlySortedBy g.T.Ord.cmp) next (sorted_tail g.T.Ord.cmp other others others_up);
      same =
          inv.same ∙ (λ i. is_disjoint g.T.Ord.cmp (pending (here i) ms) (pending (there i) others))
          ∙ disjoint_greater g.met.T.Ord.total m other ms others up not_equal not_less
          ∙ (λ i. is_disjoint g.T.Ord.cmp (pending (sym here i) ms) (next i));
    }

pub returns-in_default : goal.returns-in_default
returns-in_default g c =
    let ms = pending c.loop-next.next c.loop-next.members in
    sym (c.loop-next.invariant.same ∙ ap (λ n. is_disjoint g.T.Ord.cmp ms (pending n c.loop-next.others)) c.in_default.is-1
    ∙ disjoint_from_none g.met.T.Ord.total ms)
