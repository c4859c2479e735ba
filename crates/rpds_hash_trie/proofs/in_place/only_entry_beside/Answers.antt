use Rattle.std.proofs.Common.{sym, ◌∙◌}
use Rattle.rpds_hash_trie.proofs.NodeRemoveMut.{several_left, one_left, none_left}
use Rattle.rpds_hash_trie.proofs.in_place.only_entry_beside.Goals as goal

pub returns-then-size-ne2 : goal.returns-then-size-ne2
returns-then-size-ne2 g c = several_left c.args.bits c.args.depth c.args.place c.args.children.now c.requires.there c.requires.loose (λ e. c.if-size-ne2.true (c.size.ensures ∙ e))

pub returns-in-None : goal.returns-in-None
returns-in-None g c = absurd (none_left c.args.bits c.args.depth c.args.place c.args.children.now c.requires.there c.requires.loose (sym c.size.ensures ∙ c.if-size-ne2.false) (sym c.in-None.ensures))

pub returns-in-Some : goal.returns-in-Some
returns-in-Some g c =
    let is = one_left c.args.bits c.args.depth c.args.place c.args.children.now c.requires.there c.requires.loose (sym c.size.ensures ∙ c.if-size-ne2.false) c.in-Some.only.now (sym c.in-Some.ensures) in
    rw is (rw c.deref-only.ensures at c.only_entry.ensures)
