use Rattle.std.proofs.Common.{refl, subst, sym}
use Rattle.std.proofs.lemmas.Fn.{says_at}
use Rattle.std.specs.Ordering.{is_eq}
use Rattle.rpds_core.proofs.Values.{MakesOn, makes_all, makes_one, value_found}
use Rattle.rpds_core.specs.Calls.{HasValueOf, HaveValuesOf}
use Rattle.rpds_tree.proofs.map.red_black_tree_map.RedBlackTreeMap.map_values.Goals as goal

pub loop-key-preserved : goal.loop-key-preserved
loop-key-preserved g c =
    let R = HasValueOf g.F.Fn c.args.change in
    let x : g.row.K.Denot × g.row.V.Denot = (c.in-Some.key.now, c.in-Some.value.now) in
    let y : g.row.K.Denot × g.row.W.Denot = (c.in_ok-clone.field-0, c.in_ok-change.field-0) in
    let made : HasValueOf g.F.Fn c.args.change x y = record {
      key = c.requires.clone_keys c.in-Some.key.now c.in_ok-clone.field-0
          c.in_ok-clone.ensures.cases;
      value = says_at g.F.Fn c.in_ok-change.ensures refl;
    } in
    subst (λ l. MakesOn R c.args.self.now.entries c.next.new.self l) (sym c.in_ok-push.ensures.items)
    (makes_one R c.args.self.now.entries c.loop-key.key-iterator c.next.new.self c.loop-key.pairs.items x y c.in-Some.ensures.steps made
    c.loop-key.invariant)

pub returns-in-Ok-clause-ok : goal.returns-in-Ok-clause-ok
returns-in-Ok-clause-ok g c =
    subst (λ l. HaveValuesOf g.F.Fn c.args.change c.args.self.now.entries l) (sym c.in-Ok.ensures.entries)
    (makes_all (HasValueOf g.F.Fn c.args.change) c.args.self.now.entries c.loop-key.key-iterator c.loop-key.pairs.items c.in-None.ensures.steps.0
    c.loop-key.invariant)

pub returns-in-Ok-clause-values : goal.returns-in-Ok-clause-values
returns-in-Ok-clause-values g c = λ h acts k.
    value_found g.F.Fn c.args.change h acts (λ j. is_eq (g.K.Ord.cmp k j)) c.args.self.now.entries _ (returns-in-Ok-clause-ok g c)
