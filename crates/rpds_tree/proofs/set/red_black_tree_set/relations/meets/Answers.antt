use Rattle.std.proofs.Common.{filter}
use Rattle.rpds_tree.proofs.Words.{◌≡◌, true, false, is_some, ap, sym, subst, ◌∙◌, sorted_tail, IsStrictlySortedBy, is_eq, is_gt, is_lt, find_member}
use Rattle.rpds_tree.proofs.SideBySide.{ends, passed}
use Rattle.rpds_tree.proofs.set.red_black_tree_set.relations.meets.Goals as goal

pub returns-then-not-is_lt-clause-found : goal.returns-then-not-is_lt-clause-found
returns-then-not-is_lt-clause-found g c =
    let v = c.args.value.now in
    let inv = c.loop-member.invariant in
    let up = subst (IsStrictlySortedBy g.T.Ord.cmp) c.in-Some.ensures.steps inv.sorted in
    let not_less : is_lt (g.T.Ord.cmp c.in-Some.member.now v) ≡ false = ap is_lt (sym c.cmp-order.ensures) ∙ sym c.is_lt.ensures ∙ c.if-not-is_lt.true in
    let end = ends g.met.T.Ord.total v c.in-Some.member.now c.next.new.self up not_less in
    c.is_eq.ensures ∙ ap is_eq c.cmp-order.ensures ∙ end.found
    ∙ ap (λ ms. is_some (find_member g.T.Ord.cmp v ms)) (sym c.in-Some.ensures.steps) ∙ ap is_some (sym inv.found)

pub returns-then-not-is_lt-clause-rest : goal.returns-then-not-is_lt-clause-rest
returns-then-not-is_lt-clause-rest g c =
    let v = c.args.value.now in
    let inv = c.loop-member.invariant in
    let up = subst (IsStrictlySortedBy g.T.Ord.cmp) c.in-Some.ensures.steps inv.sorted in
    let not_less : is_lt (g.T.Ord.cmp c.in-Some.member.now v) ≡ false = ap is_lt (sym c.cmp-order.ensures) ∙ sym c.is_lt.ensures ∙ c.if-not-is_lt.true in
    let end = ends g.met.T.Ord.total v c.in-Some.member.now c.next.new.self up not_less in
    λ equal. end.rest (ap is_eq (sym c.cmp-order.ensures) ∙ sym c.is_eq.ensures ∙ equal)
    ∙ ap (filter (λ m. is_gt (g.T.Ord.cmp m v))) (sym c.in-Some.ensures.steps) ∙ sym inv.rest

pub loop-member-preserved : goal.loop-member-preserved
loop-member-preserved g c =
    let v = c.args.value.now in
    let m = c.in-Some.member.now in
    let ms = c.next.new.self in
    let inv = c.loop-member.invariant in
    let less : is_lt (g.T.Ord.cmp m v) ≡ true = ap is_lt (sym c.cmp-order.ensures) ∙ sym c.is_lt.ensures ∙ c.if-not-is_lt.false in
    let step = passed g.met.T.Ord.total v m ms less in
    record {
      sorted = sorted_tail g.T.Ord.cmp m ms (subst (IsStrictlySortedBy g.T.Ord.cmp) c.in-Some.ensures.steps inv.sorted);
      found = inv.found ∙ ap (find_member g.T.Ord.cmp v) c.in-Some.ensures.steps ∙ step.found;
      rest = inv.rest ∙ ap (filter (λ m. is_gt (g.T.Ord.cmp m v))) c.in-Some.ensures.steps ∙ step.rest;
    }
