use Rattle.std.proofs.Common.{◌≡◌, Ok, map, refl, subst, sym}
use Rattle.std.proofs.lemmas.Result.{IfOk-weaker}
use Rattle.std.proofs.lemmas.Fn.{says_at}
use Rattle.std.specs.Fn.{FnReturnsAt}
use Rattle.std.specs.List.{AllZip}
use Rattle.rpds_core.proofs.Values.{MakesOn, makes_all, makes_one}
use Rattle.rpds_sequence.proofs.Retained.{zip_map}
use Rattle.rpds_sequence.proofs.sequence.Sequence.map.Goals as goal

pub loop-item-preserved : goal.loop-item-preserved
loop-item-preserved g c =
    let R : g.row.T.Denot → g.row.U.Denot → Type 0 = λ x y. FnReturnsAt g.F.Fn c.args.change x (Ok y) in
    subst (λ l. MakesOn R c.args.self.now c.next.new.self l) (sym c.in_ok-push.ensures.items)
    (makes_one R c.args.self.now c.loop-item.item-iterator c.next.new.self c.loop-item.items.items c.in-Some.item.now c.in_ok-change.field-0 c.in-Some.ensures.steps
    (says_at g.F.Fn c.in_ok-change.ensures refl) c.loop-item.invariant)

pub returns-clause-ok : goal.returns-clause-ok
returns-clause-ok g c =
    let R : g.row.T.Denot → g.row.U.Denot → Type 0 = λ x y. FnReturnsAt g.F.Fn c.args.change x (Ok y) in
    let made = makes_all R c.args.self.now c.loop-item.item-iterator c.loop-item.items.items c.in-None.ensures.steps.0 c.loop-item.invariant in
    IfOk-weaker c.from_vec.result (λ s. s ≡ c.loop-item.items.items) (λ s. AllZip R c.args.self.now s) (λ s is. subst (λ l. AllZip R c.args.self.now l) (sym is) made) c.from_vec.ensures

pub returns-clause-mapped : goal.returns-clause-mapped
returns-clause-mapped g c =
    let R : g.row.T.Denot → g.row.U.Denot → Type 0 = λ x y. FnReturnsAt g.F.Fn c.args.change x (Ok y) in
    IfOk-weaker c.from_vec.result (λ s. AllZip R c.args.self.now s) (λ s. (h : g.row.T.Denot → g.row.U.Denot) → ((x : g.row.T.Denot) (y : g.row.U.Denot) → R x y → y ≡ h x) → s ≡ map h c.args.self.now)
    (λ s made h acts. zip_map R h acts c.args.self.now s made) (returns-clause-ok g c)
