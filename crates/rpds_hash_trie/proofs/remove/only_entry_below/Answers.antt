use Rattle.std.proofs.Common.{sym, ◌∙◌}
use Rattle.rpds_hash_trie.proofs.NodeRemove.{not_alone, only_one, none_first}
use Rattle.rpds_hash_trie.proofs.remove.only_entry_below.Goals as goal

pub returns-then-size-ne1 : goal.returns-then-size-ne1
returns-then-size-ne1 g c = not_alone c.args.bits c.args.depth c.args.children.now c.requires (λ e. c.if-size-ne1.true (c.size.ensures ∙ e))

pub returns-in-None : goal.returns-in-None
returns-in-None g c = absurd (none_first c.args.bits c.args.depth c.args.children.now c.requires (sym c.size.ensures ∙ c.if-size-ne1.false) (sym c.in-None.ensures))

pub returns-in-Some : goal.returns-in-Some
returns-in-Some g c =
    let is = only_one c.args.bits c.args.depth c.args.children.now c.requires c.in-Some.only.now (sym c.size.ensures ∙ c.if-size-ne1.false) (sym c.in-Some.ensures) in
    rw is (rw c.deref-only.ensures at c.only_entry.ensures)
