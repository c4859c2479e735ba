use Rattle.std.proofs.Common.{ap, refl, subst, sym, of_calls, ◌∙◌}
use Rattle.std.specs.Fn.{CalledAt}
use Rattle.std.specs.List.{items_where_true}
use Rattle.std.specs.List.Retain.{IsFiltered}
use Rattle.std.specs.Ordering.{is_eq}
use Rattle.std.proofs.lemmas.Cmp.{eq_by_cmp_equiv}
use Rattle.std.proofs.lemmas.Fn.{called_at}
use Rattle.std.proofs.lemmas.Map.Keys.{IsDistinct-from_sorted}
use Rattle.rpds_core.proofs.Tested.{member_tested}
use Rattle.rpds_core.proofs.Asked.{Asked, asked_all, asked_one}
use Rattle.rpds_tree.proofs.set.red_black_tree_set.RedBlackTreeSet.retain.Goals as goal

pub loop-member-preserved : goal.loop-member-preserved
loop-member-preserved g c =
    let R = CalledAt g.F.FnMut in
    let inv = c.loop-member.invariant in
    let x = c.in-Some.member.now in (
      search of_calls,
      subst (λ l. Asked R c.args.keep c.args.self.now.members c.keep-stays.new.self l c.next.new.self) (sym c.in_ok-push.ensures.items)
          (asked_one R c.args.keep c.args.self.now.members c.loop-member.keep c.keep-stays.new.self c.loop-member.keeps.items x c.keep-stays.result
          c.loop-member.member-iterator c.next.new.self (called_at g.F.FnMut c.keep-stays.ensures refl) c.in-Some.ensures.steps inv.1),
    )

pub returns-clause-ok : goal.returns-clause-ok
returns-clause-ok g c =
    let R = CalledAt g.F.FnMut in
    let all = c.args.self.now.members in
    let asked = subst (λ l. Asked R c.args.keep all c.loop-member.keep c.loop-member.keeps.items l) c.in-None.ensures.steps.0 c.loop-member.invariant.1 in
    let left = c.in_ok-self.ensures.ok ∙ ap (λ flags. items_where_true flags all) c.deref.ensures.value in
    subst (λ l. IsFiltered R c.args.keep all l) (sym left) (asked_all R c.args.keep all c.loop-member.keep c.loop-member.keeps.items asked).1

pub returns-clause-found : goal.returns-clause-found
returns-clause-found g c = λ test acts x.
    let R = g.T.Ord.cmp in
    let law = eq_by_cmp_equiv g.met.T.Ord.total in
    member_tested g.F.FnMut c.args.keep law c.args.self.now.members c.in_ok-self.field-0.members (IsDistinct-from_sorted R c.args.self.now.members
    c.iter-member-items.ensures.ordered.ascending) (returns-clause-ok g c) test acts x (λ m. is_eq (R x m)) (λ m. law.symm x m)
