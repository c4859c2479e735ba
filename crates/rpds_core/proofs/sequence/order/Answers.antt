use Rattle.std.proofs.Common.{rules, sym, ap, ◌∙◌}
use Rattle.std.specs.Cmp.Lexicographic.{slice_cmp}
use Rattle.std.specs.Ordering.{ordering_then}
use Rattle.rpds_core.proofs.BothLists.{both_more, right_ends, left_ends, both_end, differs, ties}
use Rattle.rpds_core.proofs.sequence.order.Goals as goal

pub returns-in_default-next : goal.returns-in_default-next
returns-in_default-next g c = λ see rest of shows agrees.
    sym (right_ends shows (slice_cmp of) c.in-Some.ensures.steps c.in_default-next.ensures.steps) ∙ c.loop-a.invariant.3 see rest of shows agrees

pub returns-then-is_ne : goal.returns-then-is_ne
returns-then-is_ne g c = λ see rest of shows agrees.
    let behind = slice_cmp of (rest c.next.new.self) (rest c.next-in-Some.new.self) in
    sym (differs c.cmp-order.result (sym c.is_ne.ensures ∙ c.if-is_ne.true) behind)
    ∙ ap (λ o. ordering_then o behind) (c.cmp-order.ensures ∙ agrees c.in-Some.a c.in-Some-next.b)
    ∙ sym (both_more shows (slice_cmp of) c.in-Some.ensures.steps c.in-Some-next.ensures.steps) ∙ c.loop-a.invariant.3 see rest of shows agrees

pub loop-a-preserved : goal.loop-a-preserved
loop-a-preserved g c = (
  search rules,
  search rules,
  search rules,
  λ see rest of shows agrees.
      let behind = slice_cmp of (rest c.next.new.self) (rest c.next-in-Some.new.self) in
      sym (ties c.cmp-order.result (sym c.is_ne.ensures ∙ c.if-is_ne.false) behind)
      ∙ ap (λ o. ordering_then o behind) (c.cmp-order.ensures ∙ agrees c.in-Some.a c.in-Some-next.b)
      ∙ sym (both_more shows (slice_cmp of) c.in-Some.ensures.steps c.in-Some-next.ensures.steps) ∙ c.loop-a.invariant.3 see rest of shows agrees,
)

pub returns-in-Some-next-2 : goal.returns-in-Some-next-2
returns-in-Some-next-2 g c = λ see rest of shows agrees.
    sym (left_ends shows (slice_cmp of) c.in_default.ensures.steps c.in-Some-next-2.ensures.steps) ∙ c.loop-a.invariant.3 see rest of shows agrees

pub returns : goal.returns
returns g c = λ see rest of shows agrees.
    sym (both_end shows (slice_cmp of) c.in_default.ensures.steps c.in-None.ensures.steps) ∙ c.loop-a.invariant.3 see rest of shows agrees
