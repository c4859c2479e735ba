use Rattle.std.proofs.Common.{◌++◌, ◌∷◌, [], false, true, length, map, ap, subst, sym, ◌∙◌, arith, lit<, of_calls}
use Rattle.std.proofs.lemmas.Fn.{called_at}
use Rattle.std.proofs.lemmas.List.{map_push}
use Rattle.std.specs.Fn.{CalledAt}
use Rattle.std.specs.Map.{keys_of}
use Rattle.rpds_red_black.proofs.Levels.{few_levels}
use Rattle.rpds_sequence.proofs.Items.{length_items, no_items}
use Rattle.rpds_sequence.proofs.Retained.{KeepsOn, drops_one, keeps_all, keeps_one}
use Rattle.rpds_sequence.proofs.sequence.Sequence.entries_where.Goals as goal

-- the size is a usize, so no path is longer than the stack
pub over-walk-requires : goal.over-walk-requires
over-walk-requires g c =
    let few = few_levels (length c.self.inside.tree.entries) (omega (arith, c.len-left.ensures, ap length c.self.view_is, length_items c.self.inside.tree.entries)) in
    (lit< tt, omega (arith, few, c.self.invariant.shallow))

pub loop-left-preserved-in_ok-push : goal.loop-left-preserved-in_ok-push
loop-left-preserved-in_ok-push g c =
    let R = CalledAt g.F.FnMut in
    let e = c.next_entry-entry.result.now.value in
    let rest = keys_of c.next_entry-entry.new.self in
    let called = subst (λ k. R c.loop-left.keep k true c.keep-stays.new.self) (ap (λ e. e.key) c.deref.ensures) (called_at g.F.FnMut c.keep-stays.ensures c.if-stays.true) in
    let old = c.loop-left.entries.items in
    let pushed = ap (λ es. map (λ e. e.value.key) es) c.in_ok-push.ensures.items ∙ map_push (λ e. e.value.key) old _ ∙ ap (λ e. map (λ e. e.value.key) old ++ e.key ∷ []) c.in_ok-clone.ensures.cases in
    record {
      callable = search of_calls;
      left = omega (arith, c.loop-left.invariant.left, ap length c.next_entry-entry.ensures, c.loop-left-test.true);
      kept = subst (λ l. KeepsOn R c.args.keep c.args.self.now c.keep-stays.new.self rest l) (sym pushed)
          (keeps_one R c.args.keep c.args.self.now c.loop-left.keep c.keep-stays.new.self e.key (keys_of c.loop-left.walk) rest _ called (ap keys_of c.next_entry-entry.ensures) c.loop-left.invariant.kept);
    }

pub loop-left-preserved : goal.loop-left-preserved
loop-left-preserved g c =
    let R = CalledAt g.F.FnMut in
    let e = c.next_entry-entry.result.now.value in
    let called = subst (λ k. R c.loop-left.keep k false c.keep-stays.new.self) (ap (λ e. e.key) c.deref.ensures) (called_at g.F.FnMut c.keep-stays.ensures c.if-stays.false) in
    record {
      callable = search of_calls;
      left = omega (arith, c.loop-left.invariant.left, ap length c.next_entry-entry.ensures, c.loop-left-test.true);
      kept = drops_one R c.args.keep c.args.self.now c.loop-left.keep c.keep-stays.new.self e.key (keys_of c.loop-left.walk) (keys_of c.next_entry-entry.new.self) _ called (ap keys_of c.next_entry-entry.ensures) c.loop-left.invariant.kept;
    }

pub returns : goal.returns
returns g c =
    keeps_all (CalledAt g.F.FnMut) c.args.keep c.args.self.now c.loop-left.keep (keys_of c.loop-left.walk) _ (no_items c.loop-left.walk (omega (arith, c.loop-left.invariant.left, c.loop-left-test.false))) c.loop-left.invariant.kept
