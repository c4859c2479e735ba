use Rattle.rpds_vector.proofs.Words.{refl, arith}
use Rattle.rpds_vector.proofs.Roots.{as_seen, opened}
use Rattle.rpds_vector.proofs.TakeRoot.{lower, down, in_first, first_items, first_vector}
use Rattle.rpds_vector.proofs.vector.Vector.take.Goals as goal

pub overflow_sub-height_for : goal.overflow_sub-height_for
overflow_sub-height_for g c =
    let o = opened c.self.view_is c.in-Some.is c.deref-root.ensures c.self.invariant in
    omega (arith, lower c.height_for.result o c.prove_sound.ensures c.height_for.ensures.levels c.args.count c.height_for-height.result c.height_for-height.ensures.levels c.height_for-height.ensures.room (omega (arith, c.if-count-eq0.false)) c.if-count-self.false)

pub first-lower-requires : goal.first-lower-requires
first-lower-requires g c =
    let o = opened c.self.view_is c.in-Some.is c.deref-root.ensures c.self.invariant in
    down c.height_for.result o c.prove_sound.ensures c.height_for.ensures.levels c.args.count c.height_for-height.result c.height_for-height.ensures.levels c.height_for-height.ensures.room (omega (arith, c.if-count-eq0.false)) c.if-count-self.false

pub take-requires : goal.take-requires
take-requires g c =
    let o = opened c.self.view_is c.in-Some.is c.deref-root.ensures c.self.invariant in
    in_first c.height_for.result o c.prove_sound.ensures c.height_for.ensures.levels c.args.count c.height_for-height.result c.height_for-height.ensures.levels c.height_for-height.ensures.room (omega (arith, c.if-count-eq0.false)) c.if-count-self.false c.first-lower.ensures c.height_for-height.ensures.shift

pub with_root-requires : goal.with_root-requires
with_root-requires g c =
    let o = opened c.self.view_is c.in-Some.is c.deref-root.ensures c.self.invariant in
    as_seen c.self.view_is (first_vector c.height_for.result o c.prove_sound.ensures c.height_for.ensures.levels c.args.count c.height_for-height.result c.height_for-height.ensures.levels c.height_for-height.ensures.room (omega (arith, c.if-count-eq0.false)) c.if-count-self.false c.first-lower.ensures c.in_ok-kept-in-Some.ensures c.self.invariant.bits_in c.in_ok-kept-in-Some.kept refl)

pub returns-in_ok-kept-in-Some : goal.returns-in_ok-kept-in-Some
returns-in_ok-kept-in-Some g c =
    let o = opened c.self.view_is c.in-Some.is c.deref-root.ensures c.self.invariant in
    let items = first_items c.height_for.result o c.prove_sound.ensures c.height_for.ensures.levels c.args.count c.height_for-height.result c.height_for-height.ensures.levels c.height_for-height.ensures.room (omega (arith, c.if-count-eq0.false)) c.if-count-self.false c.first-lower.ensures c.in_ok-kept-in-Some.ensures in
    rw (c.with_root.ensures, items, o.is) refl
