use Rattle.rpds_tree.proofs.Words.{◌≡◌, true, false, sym, ap, subst, ◌∙◌, deref_pair, is_gt, is_lt, IsAscending}
use Rattle.rpds_tree.proofs.Differences.{both_changed, both_same, first_added, first_removed, last_added, last_removed, like, none_left, unlike}
use Rattle.rpds_tree.proofs.map.red_black_tree_map.diff.next_change.Goals as goal

pub returns-in_default-next_key-clause-change : goal.returns-in_default-next_key-clause-change
returns-in_default-next_key-clause-change g c =
    let inv = c.loop-old_key.invariant in
    inv.left ∙ last_removed g.met.K.Ord.total g.V.PartialEq.eq c.loop-old_key.old c.loop-old_key.new inv.old_ascends inv.new_ascends
    (deref_pair c.next.result) c.next.new.self c.next.ensures c.in_default-next_key.ensures

pub returns-then-is_lt-clause-change : goal.returns-then-is_lt-clause-change
returns-then-is_lt-clause-change g c =
    let inv = c.loop-old_key.invariant in
    let less : is_lt (g.K.Ord.cmp c.in-Some.old_key.now c.in-Some-next_key.new_key.now) ≡ true = sym (c.is_lt.ensures ∙ ap is_lt c.cmp-order.ensures)
    ∙ c.if-is_lt.true in
    inv.left ∙ first_removed g.met.K.Ord.total g.V.PartialEq.eq c.loop-old_key.old c.loop-old_key.new inv.old_ascends inv.new_ascends
    (deref_pair c.next-then-is_lt.result) c.next-then-is_lt.new.self _ _ c.next-then-is_lt.ensures c.in-Some.ensures c.in-Some-next_key.ensures less

pub returns-then-is_gt-clause-change : goal.returns-then-is_gt-clause-change
returns-then-is_gt-clause-change g c =
    let inv = c.loop-old_key.invariant in
    let more : is_gt (g.K.Ord.cmp c.in-Some.old_key.now c.in-Some-next_key.new_key.now) ≡ true = sym (c.is_gt.ensures ∙ ap is_gt c.cmp-order.ensures)
    ∙ c.if-is_gt.true in
    inv.left ∙ first_added g.met.K.Ord.total g.V.PartialEq.eq c.loop-old_key.old c.loop-old_key.new inv.old_ascends inv.new_ascends
    (deref_pair c.next-then-is_gt.result) c.next-then-is_gt.new.self _ _ c.next-then-is_gt.ensures c.in-Some.ensures c.in-Some-next_key.ensures more

pub returns-then-ne-clause-change : goal.returns-then-ne-clause-change
returns-then-ne-clause-change g c =
    let inv = c.loop-old_key.invariant in
    let not_less : is_lt (g.K.Ord.cmp c.in-Some.old_key.now c.in-Some-next_key.new_key.now) ≡ false = sym (c.is_lt.ensures ∙ ap is_lt c.cmp-order.ensures)
    ∙ c.if-is_lt.false in
    let not_more : is_gt (g.K.Ord.cmp c.in-Some.old_key.now c.in-Some-next_key.new_key.now) ≡ false = sym (c.is_gt.ensures ∙ ap is_gt c.cmp-order.ensures)
    ∙ c.if-is_gt.false in
    let other : g.V.PartialEq.eq c.next-in-Some.result.1.now c.next-in-Some-2.result.1.now ≡ false = unlike _ (sym c.ne.ensures ∙ c.if-ne.true) in
    inv.left ∙ both_changed g.met.K.Ord.total g.V.PartialEq.eq c.loop-old_key.old c.loop-old_key.new inv.old_ascends inv.new_ascends
    (deref_pair c.next-in-Some.result) c.next-in-Some.new.self (deref_pair c.next-in-Some-2.result) c.next-in-Some-2.new.self _ _ c.next-in-Some.ensures
    c.next-in-Some-2.ensures c.in-Some.ensures c.in-Some-next_key.ensures not_less not_more other

pub loop-old_key-preserved : goal.loop-old_key-preserved
loop-old_key-preserved g c =
    let inv = c.loop-old_key.invariant in
    let not_less : is_lt (g.K.Ord.cmp c.in-Some.old_key.now c.in-Some-next_key.new_key.now) ≡ false = sym (c.is_lt.ensures ∙ ap is_lt c.cmp-order.ensures)
    ∙ c.if-is_lt.false in
    let not_more : is_gt (g.K.Ord.cmp c.in-Some.old_key.now c.in-Some-next_key.new_key.now) ≡ false = sym (c.is_gt.ensures ∙ ap is_gt c.cmp-order.ensures)
    ∙ c.if-is_gt.false in
    let alike : g.V.PartialEq.eq c.next-in-Some.result.1.now c.next-in-Some-2.result.1.now ≡ true = like _ (sym c.ne.ensures ∙ c.if-ne.false) in
    record {
      old_ascends = (subst (IsAscending g.K.Ord.cmp) c.next-in-Some.ensures inv.old_ascends).1;
      new_ascends = (subst (IsAscending g.K.Ord.cmp) c.next-in-Some-2.ensures inv.new_ascends).1;
      left = inv.left ∙ both_same g.met.K.Ord.total g.V.PartialEq.eq c.loop-old_key.old c.loop-old_key.new inv.old_ascends inv.new_ascends
          (deref_pair c.next-in-Some.result) c.next-in-Some.new.self (deref_pair c.next-in-Some-2.result) c.next-in-Some-2.new.self _ _
          c.next-in-Some.ensures c.next-in-Some-2.ensures c.in-Some.ensures c.in-Some-next_key.ensures not_less not_more alike;
    }

pub returns-in_err-next_key-clause-change : goal.returns-in_err-next_key-clause-change
returns-in_err-next_key-clause-change g c =
    let inv = c.loop-old_key.invariant in
    let none = none_left g.met.K.Ord.total g.V.PartialEq.eq c.loop-old_key.old c.loop-old_key.new c.in_default.ensures c.in_err-next_key.ensures in
    rw c.from_residual.ensures (inv.left ∙ none, none)

pub returns-clause-change : goal.returns-clause-change
returns-clause-change g c =
    let inv = c.loop-old_key.invariant in
    inv.left ∙ last_added g.met.K.Ord.total g.V.PartialEq.eq c.loop-old_key.old c.loop-old_key.new inv.old_ascends inv.new_ascends
    (deref_pair c.next-2.result) c.next-2.new.self c.next-2.ensures c.in_default.ensures
