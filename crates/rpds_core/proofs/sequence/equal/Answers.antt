use Rattle.std.proofs.Common.{rules, sym, ap, ◌∙◌, ◌&&◌}
use Rattle.std.specs.Cmp.Lexicographic.{pointwise}
use Rattle.rpds_core.proofs.BothLists.{both_more, right_ends, left_ends, both_end}
use Rattle.rpds_core.proofs.sequence.equal.Goals as goal

pub returns-in_default-next : goal.returns-in_default-next
returns-in_default-next g c = λ see rest eq shows agrees.
    sym (right_ends shows (pointwise eq) c.in-Some.ensures.steps c.in_default-next.ensures.steps) ∙ c.loop-a.invariant.3 see rest eq shows agrees

pub returns-then-not-eq : goal.returns-then-not-eq
returns-then-not-eq g c = λ see rest eq shows agrees.
    ap (λ b. b && pointwise eq (rest c.next.new.self) (rest c.next-in-Some.new.self)) (sym c.if-not-eq.true ∙ c.eq.ensures ∙ agrees c.in-Some.a c.in-Some-next.b)
    ∙ sym (both_more shows (pointwise eq) c.in-Some.ensures.steps c.in-Some-next.ensures.steps) ∙ c.loop-a.invariant.3 see rest eq shows agrees

pub loop-a-preserved : goal.loop-a-preserved
loop-a-preserved g c = (
  search rules,
  search rules,
  search rules,
  λ see rest eq shows agrees.
      ap (λ b. b && pointwise eq (rest c.next.new.self) (rest c.next-in-Some.new.self)) (sym c.if-not-eq.false ∙ c.eq.ensures ∙ agrees c.in-Some.a c.in-Some-next.b)
      ∙ sym (both_more shows (pointwise eq) c.in-Some.ensures.steps c.in-Some-next.ensures.steps) ∙ c.loop-a.invariant.3 see rest eq shows agrees,
)

pub returns-in-Some-next-2 : goal.returns-in-Some-next-2
returns-in-Some-next-2 g c = λ see rest eq shows agrees.
    sym (left_ends shows (pointwise eq) c.in_default.ensures.steps c.in-Some-next-2.ensures.steps) ∙ c.loop-a.invariant.3 see rest eq shows agrees

pub returns : goal.returns
returns g c = λ see rest eq shows agrees.
    sym (both_end shows (pointwise eq) c.in_default.ensures.steps c.in-None.ensures.steps) ∙ c.loop-a.invariant.3 see rest eq shows agrees
