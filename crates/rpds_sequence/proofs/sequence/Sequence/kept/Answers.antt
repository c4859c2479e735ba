use Rattle.std.proofs.Common.{◌≡◌, ◌≤◌, length, map, ap, subst, sym, ◌∙◌, arith}
use Rattle.std.proofs.lemmas.Result.{IfOk-weaker}
use Rattle.std.proofs.lemmas.List.{length-map}
use Rattle.std.specs.Fn.{CalledAt}
use Rattle.std.specs.List.Retain.{IsFiltered}
use Rattle.std.specs.Map.{keys_of}
use Rattle.rpds_sequence.proofs.Items.{items_entries}
use Rattle.rpds_sequence.proofs.Retained.{filtered_all}
use Rattle.rpds_sequence.proofs.sequence.Sequence.kept.Goals as goal

pub returns-then-size-len : goal.returns-then-size-len
returns-then-size-len g c =
    let R = CalledAt g.F.FnMut in
    let all = c.args.self.now in
    let entries = c.in_ok-entries.entries.items in
    let chosen = map (λ e. e.value.key) entries in
    let most : length all ≤ length chosen = omega (arith, c.len.ensures, c.if-size-len.true, c.len-size.ensures, length-map entries (λ e. e.value.key)) in
    let same = filtered_all R c.args.keep all chosen c.in_ok-entries.ensures most in
    let whole = subst (λ l. IsFiltered R c.args.keep all l) same c.in_ok-entries.ensures in
    IfOk-weaker c.clone.result (λ s. s ≡ all) (λ s. IsFiltered R c.args.keep all s) (λ s is. subst (λ l. IsFiltered R c.args.keep all l) (sym is) whole) c.clone.ensures

pub returns : goal.returns
returns g c =
    let R = CalledAt g.F.FnMut in
    subst (λ l. IsFiltered R c.args.keep c.args.self.now l) (sym (c.of_tree.ensures ∙ ap keys_of c.in_ok-tree.ensures.pairs ∙ items_entries _)) c.in_ok-entries.ensures
