use Rattle.rpds_vector.proofs.Words.{refl, ap, arith, Contents}
use Rattle.rpds_vector.proofs.Descent.{root_counted}
use Rattle.rpds_vector.proofs.Roots.{as_seen, opened}
use Rattle.rpds_vector.proofs.DropLast.{IsShrinking, as_high, last_at, none_remade, root_remade, root_within, first_fewer, root_fewer}
use Rattle.rpds_vector.proofs.vector.Vector.without_last.Given.{Over}
use Rattle.rpds_vector.proofs.vector.Vector.without_last.Goals as goal
use Rattle.rpds_vector.proofs.vector.Vector.without_last.Goals.{After-prove_sound}

shrinking : (g : Over) (c : After-prove_sound g) → IsShrinking c.args.self.now c.deref-root.result.now c.self.inside.bits c.self.inside.len c.height_for-height.result c.height_for-lower.result
shrinking g c =
    let o = opened c.self.view_is c.in-Some.is c.deref-root.ensures c.self.invariant in
    record {
      o = o;
      sound = c.prove_sound.ensures;
      more = omega (arith, c.requires, root_counted o);
      levels = c.height_for-height.ensures.levels;
      fewer = c.height_for-lower.ensures.levels;
      room = c.height_for-lower.ensures.room;
    }

pub drop_last-requires-clause-level : goal.drop_last-requires-clause-level
drop_last-requires-clause-level g c = as_high (shrinking g (goal.at.drop_last-requires-clause-level g c).After-prove_sound)

pub drop_last-requires-clause-last : goal.drop_last-requires-clause-last
drop_last-requires-clause-last g c = last_at (shrinking g (goal.at.drop_last-requires-clause-last g c).After-prove_sound)

pub first_child-requires : goal.first_child-requires
first_child-requires g c =
    let d = shrinking g (goal.at.first_child-requires g c).After-prove_sound in
    omega (arith, as_high d, c.if-lower-height.true)

pub with_root-requires : goal.with_root-requires
with_root-requires g c =
    let d = shrinking g (goal.at.with_root-requires g c).After-prove_sound in
    as_seen c.self.view_is (first_fewer d _ c.if-lower-height.true c.in_ok-first-in-Some.ensures).vector

pub with_root-requires-in-Some : goal.with_root-requires-in-Some
with_root-requires-in-Some g c =
    let d = shrinking g (goal.at.with_root-requires-in-Some g c).After-prove_sound in
    as_seen c.self.view_is (root_fewer d _ (omega (arith, c.if-lower-height.false)) c.in_ok-shorter-in-Some.ensures.ok).vector

pub returns-then-lower-height-clause-ok : goal.returns-then-lower-height-clause-ok
returns-then-lower-height-clause-ok g c =
    let d = shrinking g (goal.at.returns-then-lower-height-clause-ok g c).After-prove_sound in
    let fewer = first_fewer d c.in_ok-first-in-Some.first c.if-lower-height.true c.in_ok-first-in-Some.ensures in
    rw (c.with_root.ensures, ap (λ (t : Contents g.row.T.Denot). t.items) fewer.is) refl

pub returns-then-lower-height-clause-made : goal.returns-then-lower-height-clause-made
returns-then-lower-height-clause-made g c =
    none_remade (shrinking g (goal.at.returns-then-lower-height-clause-made g c).After-prove_sound) c.if-lower-height.true _

pub returns-clause-ok : goal.returns-clause-ok
returns-clause-ok g c =
    let d = shrinking g (goal.at.returns-clause-ok g c).After-prove_sound in
    let fewer = root_fewer d c.in_ok-shorter-in-Some.shorter (omega (arith, c.if-lower-height.false)) c.in_ok-shorter-in-Some.ensures.ok in
    rw (c.with_root-in-Some.ensures, ap (λ (t : Contents g.row.T.Denot). t.items) fewer.is) refl

pub returns-clause-made : goal.returns-clause-made
returns-clause-made g c =
    let d = shrinking g (goal.at.returns-clause-made g c).After-prove_sound in
    let r = c.in_ok-shorter-in-Some.ensures.made in
    (r.0, root_remade d (omega (arith, c.if-lower-height.false)) r.1)

pub returns-clause-at_most : goal.returns-clause-at_most
returns-clause-at_most g c =
    root_within (shrinking g (goal.at.returns-clause-at_most g c).After-prove_sound) c.in_ok-shorter-in-Some.ensures.refused

pub returns-in_err-shorter-in-Some-clause-at_most : goal.returns-in_err-shorter-in-Some-clause-at_most
returns-in_err-shorter-in-Some-clause-at_most g c =
    root_within (shrinking g (goal.at.returns-in_err-shorter-in-Some-clause-at_most g c).After-prove_sound) c.in_err-shorter-in-Some.ensures.refused
