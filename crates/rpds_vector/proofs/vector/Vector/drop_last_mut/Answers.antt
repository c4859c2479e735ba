use Rattle.rpds_vector.proofs.Words.{refl, sym, ap, ◌∙◌, arith, common_steps, Trie}
use Rattle.rpds_vector.proofs.Roots.{opened}
use Rattle.rpds_vector.proofs.DropLast.{IsShrinking, IsFewer, as_high, last_at, first_fewer, root_fewer}
use Rattle.rpds_vector.proofs.vector.Vector.drop_last_mut.Given.{Over}
use Rattle.rpds_vector.proofs.vector.Vector.drop_last_mut.Goals as goal
use Rattle.rpds_vector.proofs.vector.Vector.drop_last_mut.Goals.{After-prove_sound, Joined-lower-height, then-lower-height+in_ok-root-in-Some, else-lower-height+in_ok-make_unique-in-Some+in_ok-drop_last_mut-in-Some}

shrinking : (g : Over) (c : After-prove_sound g) → IsShrinking c.args.self.now c.deref.result.now c.self.inside.bits c.self.inside.len c.height_for-height.result c.height_for-lower.result
shrinking g c = record {
  o = opened c.self.view_is c.in-Some.is c.deref.ensures c.self.invariant;
  sound = c.prove_sound.ensures;
  more = omega (arith, c.if-self-le1.false);
  levels = c.height_for-height.ensures.levels;
  fewer = c.height_for-lower.ensures.levels;
  room = c.height_for-lower.ensures.room;
}

-- the root that is left
ended : (g : Over) (c : Joined-lower-height g) → IsShrinking c.args.self.now c.deref.result.now c.self.inside.bits c.self.inside.len c.height_for-height.result c.height_for-lower.result → IsFewer c.args.self.now c.if-lower-height.self-inside.root c.if-lower-height.self-inside.bits c.if-lower-height.self-inside.len
ended g c d =
    elim c.if-lower-height.branch [
      | then-lower-height+in_ok-root-in-Some w ↦
          rw w.self-inside-is (first_fewer d w.in_ok-root-in-Some.field-0 w.if-lower-height.true (rw (w.deref-then-lower-height.ensures, ← c.deref.ensures) at w.in_ok-root-in-Some.ensures))
      | else-lower-height+in_ok-make_unique-in-Some+in_ok-drop_last_mut-in-Some w ↦
          let dropped = rw (w.in_ok-make_unique-in-Some.ensures.value, ← c.deref.ensures) at w.in_ok-drop_last_mut-in-Some.ensures in
          let holds = w.make_unique.follows.holds w.drop_last_mut.new.self (rw w.in_ok-make_unique-in-Some.was refl) in
          rw w.self-inside-is (root_fewer d (w.make_unique.follows.lender w.drop_last_mut.new.self) (omega (arith, w.if-lower-height.false)) (holds ∙ dropped))
    ]

pub drop_last_mut-requires-clause-level : goal.drop_last_mut-requires-clause-level
drop_last_mut-requires-clause-level g c =
    let d = shrinking g (goal.at.drop_last_mut-requires-clause-level g c).After-prove_sound in
    as_high d ∙ ap (λ (t : Trie g.row.T.Denot). t.height) (c.deref.ensures ∙ sym c.in_ok-make_unique-in-Some.ensures.value)

pub drop_last_mut-requires-clause-last : goal.drop_last_mut-requires-clause-last
drop_last_mut-requires-clause-last g c =
    rw (c.in_ok-make_unique-in-Some.ensures.value, ← c.deref.ensures) (last_at (shrinking g (goal.at.drop_last_mut-requires-clause-last g c).After-prove_sound))

pub first_child-requires : goal.first_child-requires
first_child-requires g c =
    let d = shrinking g (goal.at.first_child-requires g c).After-prove_sound in
    rw (c.deref-then-lower-height.ensures, ← c.deref.ensures) (omega (arith, as_high d, c.if-lower-height.true))

pub invariant_of-self-in-Some : goal.invariant_of-self-in-Some
invariant_of-self-in-Some g c =
    let at = goal.at.invariant_of-self-in-Some g c in
    (ended g at.Joined-lower-height (shrinking g at.After-prove_sound)).vector

pub returns-after-lower-height-clause-ok : goal.returns-after-lower-height-clause-ok
returns-after-lower-height-clause-ok g c =
    let at = goal.at.returns-after-lower-height-clause-ok g c in
    (ended g at.Joined-lower-height (shrinking g at.After-prove_sound)).is

pub invariant_of-self-in_err-drop_last_mut-in-Some : goal.invariant_of-self-in_err-drop_last_mut-in-Some
invariant_of-self-in_err-drop_last_mut-in-Some g c = grind (arith, common_steps)

pub invariant_of-self-in_err-make_unique-in-Some : goal.invariant_of-self-in_err-make_unique-in-Some
invariant_of-self-in_err-make_unique-in-Some g c = grind (arith, common_steps)

pub invariant_of-self-in_err-root-in-Some : goal.invariant_of-self-in_err-root-in-Some
invariant_of-self-in_err-root-in-Some g c = grind (arith, common_steps)

pub returns-in_err-drop_last_mut-in-Some-clause-err : goal.returns-in_err-drop_last_mut-in-Some-clause-err
returns-in_err-drop_last_mut-in-Some-clause-err g c = grind (arith, common_steps)

pub returns-in_err-make_unique-in-Some-clause-err : goal.returns-in_err-make_unique-in-Some-clause-err
returns-in_err-make_unique-in-Some-clause-err g c = grind (arith, common_steps)

pub returns-in_err-root-in-Some-clause-err : goal.returns-in_err-root-in-Some-clause-err
returns-in_err-root-in-Some-clause-err g c = grind (arith, common_steps)
