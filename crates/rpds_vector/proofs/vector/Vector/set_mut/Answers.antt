use Rattle.rpds_vector.proofs.Words.{◌≡◌, refl, ap, ◌∙◌, arith, length, common_steps, items_of, Place}
use Rattle.rpds_vector.proofs.Roots.{opened, index_of, root_in}
use Rattle.rpds_vector.proofs.Descent.{root_written}
use Rattle.rpds_vector.proofs.vector.Vector.set_mut.Goals as goal
use Rattle.rpds_vector.proofs.vector.Vector.set_mut.Goals.{in-None, in-Some+in_ok-item-in-Some+in_ok-root-in-Some+in_ok-set_mut-in-Some}

pub set_mut-requires : goal.set_mut-requires
set_mut-requires g c =
    let o = opened c.self.view_is c.in-Some.is c.in_ok-root-in-Some.ensures.value c.self.invariant in
    root_in c.height_for-height.result o c.prove_sound.ensures c.height_for-height.ensures.levels c.height_for-height.ensures.shift c.args.index c.if-index-self.false

pub returns-clause-ok : goal.returns-clause-ok
returns-clause-ok g c = λ lt.
    elim c.match-self.branch [
      | in-None w ↦
          let empty : c.self.inside.len ≡ 0 = c.self.invariant.counted ∙ ap (λ r. length (items_of r)) w.in-None.is in
          absurd (omega (arith, empty, c.if-index-self.false))
      | in-Some+in_ok-item-in-Some+in_ok-root-in-Some+in_ok-set_mut-in-Some w ↦
          let o = opened c.self.view_is w.in-Some.is w.in_ok-root-in-Some.ensures.value c.self.invariant in
          let p : Place = record { index = c.args.index; height = c.height_for-height.result } in
          let at = index_of c.height_for-height.result o w.prove_sound.ensures c.height_for-height.ensures.levels c.args.index c.if-index-self.false in
          let holds = w.make_unique.follows.holds w.set_mut.new.self (rw w.in_ok-root-in-Some.was refl) in
          let item = w.in_ok-item-in-Some.ensures.ok in
          rw (w.result-is, w.self-inside-is, ← item) (root_written o p at (w.make_unique.follows.lender w.set_mut.new.self) w.in_ok-item-in-Some.item.value (holds ∙ w.in_ok-set_mut-in-Some.ensures))
    ]

pub invariant_of-self-2 : goal.invariant_of-self-2
invariant_of-self-2 g c = grind (arith, common_steps)

pub invariant_of-self-in_err-root-in-Some : goal.invariant_of-self-in_err-root-in-Some
invariant_of-self-in_err-root-in-Some g c = grind (arith, common_steps)

pub invariant_of-self-in_err-set_mut-in-Some : goal.invariant_of-self-in_err-set_mut-in-Some
invariant_of-self-in_err-set_mut-in-Some g c = grind (arith, common_steps)

pub returns-in_err-root-in-Some-clause-err : goal.returns-in_err-root-in-Some-clause-err
returns-in_err-root-in-Some-clause-err g c = grind (arith, common_steps)

pub returns-in_err-set_mut-in-Some-clause-err : goal.returns-in_err-set_mut-in-Some-clause-err
returns-in_err-set_mut-in-Some-clause-err g c = grind (arith, common_steps)
