use Rattle.std.proofs.Common.{◌≡◌, Some, ◌∷◌, [], ◌++◌, length, slice_get, take, refl, ap, sym, subst, ◌∙◌, append_assoc, rules}
use Rattle.std.proofs.Math.Seq.{take-length}
use Rattle.std.proofs.lemmas.List.{append-nil, nil_from_length}
use Rattle.rpds.specs.Kinds.{map_of_pairs}
use Rattle.example_ledger.specs.Changed.{IsMapAt, changed}
use Rattle.example_ledger.proofs.Changed.{changes_nothing, kept, one_more}
use Rattle.example_ledger.proofs.transact.transact.Goals as goal

pub loop-op-init : goal.loop-op-init
loop-op-init c =
    let t = c.args.table.now in
    let t' = c.apply.new.self in
    let made = c.copy_is_lawful.ensures.made t t' c.args.version c.in-Made.number c.in-Made.ensures.transition in
    record {
      stay = subst (λ n. take n t'.versions ≡ t.versions) made.0 made.1;
      draft = made.0;
      rest = search rules;
      changed = λ pairs map. c.same_is_lawful.ensures.transitive (Some (map_of_pairs pairs)) (slice_get t.versions c.args.version) (slice_get t'.versions c.in-Made.number) map made.2;
    }

pub loop-op-preserved : goal.loop-op-preserved
loop-op-preserved c =
    let i = c.loop-op.invariant in
    let t = c.loop-op.table in
    let t' = c.apply-in-loop-op.new.self in
    let op = c.in-Some.op in
    let ops = c.loop-op.yielded in
    let draft = c.in-Made.number in
    let step = rw c.in-Done-true.field-0-test at c.in-Done-true.ensures.transition in
    record {
      stay = kept c.args.table.now.versions t.versions t'.versions draft i.draft i.stay (c.change_in_place_is_lawful.ensures.before t t' draft op _ step);
      draft = i.draft;
      rest = i.rest ∙ ap (λ r. ops ++ r) c.in-Some.ensures.steps.0 ∙ sym (append_assoc ops (op ∷ []) c.next.new.self.rest.items);
      changed = λ pairs map. one_more draft pairs ops op t' (c.map_change_is_lawful.ensures.done t t' draft op (changed pairs ops) _ refl (i.changed pairs map) step);
    }

pub returns-in-Refused-apply-clause-stay : goal.returns-in-Refused-apply-clause-stay
returns-in-Refused-apply-clause-stay c =
    let i = c.loop-op.invariant in
    let t = c.loop-op.table in
    let t' = c.apply-in-loop-op.new.self in
    kept c.args.table.now.versions t.versions t'.versions c.in-Made.number i.draft i.stay (c.change_in_place_is_lawful.ensures.before t t' c.in-Made.number c.in-Some.op _ c.in-Refused-apply.ensures.transition)

pub returns-in-Done-false-clause-stay : goal.returns-in-Done-false-clause-stay
returns-in-Done-false-clause-stay c =
    let i = c.loop-op.invariant in
    let t = c.loop-op.table in
    let t' = c.apply-in-loop-op.new.self in
    kept c.args.table.now.versions t.versions t'.versions c.in-Made.number i.draft i.stay (c.change_in_place_is_lawful.ensures.before t t' c.in-Made.number c.in-Some.op _ c.in-Done-false.ensures.transition)

pub returns-clause-changed : goal.returns-clause-changed
returns-clause-changed c =
    let i = c.loop-op.invariant in
    let rest = c.loop-op.op-iterator.rest in
    let none : rest.items ≡ [] = nil_from_length rest.items (search (rules, c.in-None.ensures.steps.0)) in
    let all = i.rest ∙ ap (λ r. c.loop-op.yielded ++ r) none ∙ append-nil c.loop-op.yielded in
    λ pairs map. subst (λ ops. IsMapAt c.in-Made.number (changed pairs ops) c.loop-op.table) (sym all) (i.changed pairs map)

pub returns-in-Refused-clause-stay : goal.returns-in-Refused-clause-stay
returns-in-Refused-clause-stay c =
    let t = c.args.table.now in
    ap (take (length t.versions)) (c.copy_is_lawful.ensures.refused t c.apply.new.self c.args.version _ c.in-Refused.ensures.transition) ∙ take-length t.versions

pub returns-in-Done-false-clause-nothing : goal.returns-in-Done-false-clause-nothing
returns-in-Done-false-clause-nothing c = λ is pairs map.
    let i = c.loop-op.invariant in
    let step = rw c.in-Done-false.field-0-test at c.in-Done-false.ensures.transition in
    changes_nothing pairs c.args.ops.items c.loop-op.yielded c.loop-op.op-iterator.rest.items c.next.new.self.rest.items c.in-Some.op i.rest c.in-Some.ensures.steps.0
    (c.map_change_is_lawful.ensures.nothing c.loop-op.table c.apply-in-loop-op.new.self c.in-Made.number c.in-Some.op (changed pairs c.loop-op.yielded) (i.changed pairs map) step)

pub unreachable-requires : goal.unreachable-requires
unreachable-requires c = c.copy_is_lawful.ensures.done c.args.table.now c.apply.new.self c.args.version _ c.in-Done.ensures.transition

pub unreachable-requires-in-Made-apply : goal.unreachable-requires-in-Made-apply
unreachable-requires-in-Made-apply c =
    c.change_in_place_is_lawful.ensures.made c.loop-op.table c.apply-in-loop-op.new.self c.in-Made.number _ c.in-Some.op c.in-Made-apply.ensures.transition
