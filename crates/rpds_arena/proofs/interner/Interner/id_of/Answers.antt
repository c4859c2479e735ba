use Rattle.std.proofs.Common.{ap, ◌∙◌}
use Rattle.rpds_arena.specs.Interned.{place_of}
use Rattle.rpds_arena.proofs.Places.{place_of_id, place_of_item, place_of_stray}
use Rattle.rpds_arena.proofs.interner.Interner.id_of.Goals as goal
use Rattle.rpds_arena.proofs.interner.Interner.id_of.Goals.{else-self-via-then-self+else-ne, else-self-via-else-self}

pub returns-then-ne : goal.returns-then-ne
returns-then-ne g c =
    let i = c.self.inside in
    let id = c.in_ok-id in
    let there = place_of_stray g.met.T.Eq.laws i.has_strays i.arena i.ids.entries c.self.invariant c.args.value id.field-0.now id.ensures in
    there c.get-then-self.result c.get-then-self.ensures c.if-ne.ensures ∙ ap (place_of g.T.PartialEq.eq c.args.value.now) c.self.view_is

pub returns : goal.returns
returns g c =
    let i = c.self.inside in
    let id = c.in_ok-id in
    let view = ap (place_of g.T.PartialEq.eq c.args.value.now) c.self.view_is in
    elim c.else-self.branch [
      | else-self-via-then-self+else-ne w ↦ place_of_item g.met.T.Eq.laws i.has_strays i.arena i.ids.entries c.self.invariant c.args.value id.field-0.now id.ensures w.get-then-self.result w.get-then-self.ensures w.if-ne.ensures ∙ view
      | else-self-via-else-self w ↦ place_of_id g.met.T.Eq.laws i.has_strays i.arena i.ids.entries c.self.invariant c.args.value id.field-0.now id.ensures w.if-self.false ∙ view
    ]
