use Rattle.std.proofs.Common.{of_calls}
use Rattle.std.proofs.lemmas.Fn.{called}
use Rattle.std.proofs.lemmas.Option.{get_or_from_slice_get}
use Rattle.rpds_red_black.proofs.Words.{◌+◌, length, refl, sym, ap, ◌∙◌, arith, Shape, pair_of, keys_of}
use Rattle.rpds_red_black.proofs.Searching.{answers_next, before_greater, behind_less, equal_of, greater_of, key_at, left_lies, length_parts, less_of, opened_lies, own_lies, right_lies}
use Rattle.rpds_red_black.proofs.tree.Tree.search_by.Goals as goal

pub returns-then-is_eq-clause-position : goal.returns-then-is_eq-clause-position
returns-then-is_eq-clause-position g c = λ ord by d.
    let n = c.in-Some.node.now in
    let all = c.args.self.now.entries in
    let own = own_lies n.left.entries n.right.entries all (pair_of n.entry.value) c.loop-node.before (opened_lies c.loop-node.before _ _ all (ap (λ (s : Shape _ _). s.entries) c.in-Some.ensures) c.loop-node.invariant.lie) in
    let next = answers_next g.F.FnMut _ _ _ _ _ (called g.F.FnMut c.order-answer.ensures refl) (c.loop-node.invariant.narrowed ord by).0 in
    let there = ap (λ i. c.loop-node.before + i) c.len_within-left.ensures in
    rw (there, get_or_from_slice_get (keys_of all) (c.loop-node.before + length n.left.entries) n.entry.value.key d (key_at all _ (pair_of n.entry.value) own))
    (ap (λ e. ord e.key) (sym c.deref.ensures) ∙ sym next.0 ∙ equal_of _ (sym c.is_eq.ensures ∙ c.if-is_eq.true))

pub loop-node-preserved-then-is_lt : goal.loop-node-preserved-then-is_lt
loop-node-preserved-then-is_lt g c =
    let inv = c.loop-node.invariant in
    let n = c.in-Some.node.now in
    let all = c.args.self.now.entries in
    let e = pair_of n.entry.value in
    let is = ap (λ (s : Shape _ _). s.entries) c.in-Some.ensures in
    let lie = opened_lies c.loop-node.before _ _ all is inv.lie in
    let long = length_parts n.left.entries n.right.entries all e c.loop-node.before lie in
    record {
      callable = search of_calls;
      size = omega (arith, inv.size, ap length is, long, c.len_within-left.ensures);
      bounded = omega (arith, inv.bounded, inv.size, ap length is, long, c.len_within-left.ensures);
      lie = right_lies n.left.entries n.right.entries all e c.loop-node.before lie _ (omega (arith, c.len_within-left.ensures));
      narrowed = λ ord by.
          let step = inv.narrowed ord by in
          let next = answers_next g.F.FnMut _ _ _ _ _ (called g.F.FnMut c.order-answer.ensures refl) step.0 in (
            next.1,
            behind_less ord (keys_of all) c.loop-node.before c.loop-node.size _ _ (c.loop-node.before + length n.left.entries) e.0 step.1
                (key_at all _ e (own_lies n.left.entries n.right.entries all e c.loop-node.before lie))
                (ap (λ e. ord e.key) (sym c.deref.ensures) ∙ sym next.0 ∙ less_of _ (sym c.is_lt.ensures ∙ c.if-is_lt.true))
                (omega (arith, c.len_within-left.ensures)) (omega (arith, inv.size, ap length is, long, c.len_within-left.ensures)),
          );
    }

pub loop-node-preserved : goal.loop-node-preserved
loop-node-preserved g c =
    let inv = c.loop-node.invariant in
    let n = c.in-Some.node.now in
    let all = c.args.self.now.entries in
    let e = pair_of n.entry.value in
    let is = ap (λ (s : Shape _ _). s.entries) c.in-Some.ensures in
    let lie = opened_lies c.loop-node.before _ _ all is inv.lie in
    let long = length_parts n.left.entries n.right.entries all e c.loop-node.before lie in
    record {
      callable = search of_calls;
      size = c.len_within-left.ensures;
      bounded = omega (arith, inv.bounded, inv.size, ap length is, long, c.len_within-left.ensures);
      lie = left_lies n.left.entries n.right.entries all e c.loop-node.before lie;
      narrowed = λ ord by.
          let step = inv.narrowed ord by in
          let next = answers_next g.F.FnMut _ _ _ _ _ (called g.F.FnMut c.order-answer.ensures refl) step.0 in (
            next.1,
            before_greater ord (keys_of all) c.loop-node.before c.loop-node.size _ (c.loop-node.before + length n.left.entries) e.0 step.1
                (key_at all _ e (own_lies n.left.entries n.right.entries all e c.loop-node.before lie))
                (ap (λ e. ord e.key) (sym c.deref.ensures) ∙ sym next.0 ∙ greater_of _ (sym c.is_eq.ensures ∙ c.if-is_eq.false) (sym c.is_lt.ensures ∙ c.if-is_lt.false))
                (omega (arith, c.len_within-left.ensures)),
          );
    }
