use Rattle.rpds_vector.proofs.Words.{◌≡◌, Ok, Err, Result, OnErr, [], ◌∷◌, ◌++◌, ap, refl, ◌∙◌, subst, arith, YieldsThen, Yields-more, behind, List, Contents}
use Rattle.rpds_vector.proofs.Yielded.{drains_append, append_between}
use Rattle.rpds_vector.proofs.vector.Vector.extend.Goals as goal

pub returns-clause-ok : goal.returns-clause-ok
returns-clause-ok g c =
    let gives = g.I.IntoIter.Iterator.next_gives in
    let start = c.into_iter-items.result in
    let left = c.gather.new.items in
    let held = c.in_ok-item.ensures.items c.next.new.self c.in-Some-next.ensures.steps in
    let row = c.in-Some.first ∷ held.0 in
    let one = c.in-Some-2.item ∷ [] in
    let rest = c.loop-item.yielded in
    let row_is : behind c.gather.new.row.items ≡ row = held.1 ∙ rw (c.in_ok-push.ensures.items, c.new-row.ensures.items) (ap (λ x. x ∷ held.0) c.in_ok-new.ensures.ok) in
    let stop = subst (λ o. YieldsThen gives c.next.new.self held.0 o left) c.in-Some-2.is held.2 in
    let first = Yields-more gives start row stop.0 c.in-Some-2.item left (c.next.new.self, c.in-Some.ensures.steps, stop.1) stop.2 in
    let more = rw c.into_iter-item-iterator.ensures.into_iter_gives at c.loop-item.yielded_by in
    let joined = append_between c.args.self.now.items row one rest in (
      start,
      (row ++ one) ++ rest,
      c.into_iter-items.ensures.into_iter_gives,
      drains_append gives start (row ++ one) left rest first (c.next-in-loop-item.new.self, (c.loop-item.item-iterator, more, c.in-None.ensures.steps)),
      c.branch.view_is
          ∙ c.in_ok-self-inside.ensures
          ∙ c.loop-item.invariant
          ∙ simp (c.in_ok-push-2.ensures, c.new-longer.ensures, c.in_ok-push_row.ensures.ok, c.in_ok-longer.ensures, row_is)
          (ap {A = List g.row.T.Denot} {B = Contents g.row.T.Denot} (λ xs. record c.args.self.now { items = xs }) joined),
    )

-- a row that has room in the last leaf
pub push_row-requires : goal.push_row-requires
push_row-requires g c = omega (arith, c.in_ok-item.ensures.most)

pub push_row-requires-2 : goal.push_row-requires-2
push_row-requires-2 g c = grind (arith, c.in_ok-item.ensures.most)

-- what holds of any result holds at an error
at_error : {T E P : Type 0} (result : Result T E) → P → OnErr result P
at_error (Ok value) holds = tt
at_error (Err error) holds = holds

pub returns-in_err-push-clause-err : goal.returns-in_err-push-clause-err
returns-in_err-push-clause-err g c = at_error _ refl

pub returns-in_err-longer-clause-err : goal.returns-in_err-longer-clause-err
returns-in_err-longer-clause-err g c = at_error _ refl

pub returns-in_err-push-2-clause-err : goal.returns-in_err-push-2-clause-err
returns-in_err-push-2-clause-err g c = at_error _ refl

pub returns-in_err-push-3-clause-err : goal.returns-in_err-push-3-clause-err
returns-in_err-push-3-clause-err g c = at_error _ refl

pub returns-in_err-self-inside-clause-err : goal.returns-in_err-self-inside-clause-err
returns-in_err-self-inside-clause-err g c = at_error _ refl
