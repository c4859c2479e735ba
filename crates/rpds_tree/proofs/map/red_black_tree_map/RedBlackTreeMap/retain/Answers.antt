use Rattle.std.proofs.Common.{ap, refl, subst, sym, of_calls, ◌∙◌}
use Rattle.std.specs.List.{items_where_true}
use Rattle.std.specs.List.Retain.{IsFiltered}
use Rattle.std.specs.Ordering.{is_eq}
use Rattle.std.proofs.lemmas.Cmp.{eq_by_cmp_equiv}
use Rattle.rpds_core.specs.Calls.{CalledAtEntry}
use Rattle.rpds_core.proofs.Asked.{Asked, asked_all, asked_one}
use Rattle.rpds_core.proofs.Calls.{called_entry}
use Rattle.rpds_core.proofs.EntriesTested.{entry_tested}
use Rattle.rpds_tree.proofs.Distinct.{distinct_pairs}
use Rattle.rpds_tree.proofs.map.red_black_tree_map.RedBlackTreeMap.retain.Goals as goal

pub loop-key-preserved : goal.loop-key-preserved
loop-key-preserved g c =
    let R = CalledAtEntry g.F.FnMut in
    let inv = c.loop-key.invariant in
    let x : g.row.K.Denot × g.row.V.Denot = (c.in-Some.key.now, c.in-Some.value.now) in (
      search of_calls,
      subst (λ l. Asked R c.args.keep c.args.self.now.entries c.keep-stays.new.self l c.next.new.self) (sym c.in_ok-push.ensures.items)
          (asked_one R c.args.keep c.args.self.now.entries c.loop-key.keep c.keep-stays.new.self c.loop-key.keeps.items x c.keep-stays.result
          c.loop-key.key-iterator c.next.new.self (called_entry g.F.FnMut c.keep-stays.ensures refl) c.in-Some.ensures.steps inv.1),
    )

pub returns-clause-ok : goal.returns-clause-ok
returns-clause-ok g c =
    let R = CalledAtEntry g.F.FnMut in
    let all = c.args.self.now.entries in
    let asked = subst (λ l. Asked R c.args.keep all c.loop-key.keep c.loop-key.keeps.items l) c.in-None.ensures.steps.0 c.loop-key.invariant.1 in
    let left = c.in_ok-self.ensures.ok ∙ ap (λ flags. items_where_true flags all) c.deref.ensures.value in
    subst (λ l. IsFiltered R c.args.keep all l) (sym left) (asked_all R c.args.keep all c.loop-key.keep c.loop-key.keeps.items asked).1

pub returns-clause-found : goal.returns-clause-found
returns-clause-found g c = λ test acts k.
    let law = eq_by_cmp_equiv g.met.K.Ord.total in
    entry_tested g.F.FnMut c.args.keep test acts law c.args.self.now.entries c.in_ok-self.field-0.entries
    (distinct_pairs g.met.K.Ord.total c.args.self.now.entries c.iter-key-items.ensures.ordered.ascending) (returns-clause-ok g c) k
    (λ p. is_eq (g.K.Ord.cmp k p.0)) (λ p. law.symm k p.0)
