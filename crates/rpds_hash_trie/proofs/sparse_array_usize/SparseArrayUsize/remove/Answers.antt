use Rattle.rpds_hash_trie.proofs.Words.{sym, ap, ◌∙◌, ◌≡◌, length, vec_len, rules, item_at}
use Rattle.rpds_hash_trie.proofs.ArrayGet.{bit_set, get_none}
use Rattle.rpds_hash_trie.proofs.ArrayPop.{absent_stays}
use Rattle.rpds_hash_trie.proofs.ArrayRemove.{bit_fits, count_less, taken, taken_within, length_removed}
use Rattle.rpds_hash_trie.proofs.sparse_array_usize.SparseArrayUsize.remove.Goals as goal

pub remove-requires : goal.remove-requires
remove-requires g c =
    let on = bit_set c.self.inside.bitmap c.args.place c.requires c.if-self-bit-ne0.true in
    let size : vec_len c.self.inside.items ≡ length c.self.inside.items.items = search rules in
    rw size (taken_within c.self.inside.bitmap c.args.place c.self.inside.items.items c.requires c.self.invariant on)

pub overflow_sub-self : goal.overflow_sub-self
overflow_sub-self g c = bit_fits c.self.inside.bitmap c.args.place c.requires (bit_set c.self.inside.bitmap c.args.place c.requires c.if-self-bit-ne0.true)

pub invariant_of-self : goal.invariant_of-self
invariant_of-self g c =
    let xs = c.self.inside.items.items in
    let b = c.self.inside.bitmap in
    let on = bit_set b c.args.place c.requires c.if-self-bit-ne0.true in
    let within = taken_within b c.args.place xs c.requires c.self.invariant on in
    ap length c.remove.ensures.items ∙ length_removed xs _ within ∙ count_less b c.args.place (length xs) c.requires on c.self.invariant

pub returns-then-self-bit-ne0 : goal.returns-then-self-bit-ne0
returns-then-self-bit-ne0 g c =
    rw (c.remove.ensures.items, ← c.self.view_is) (taken c.self.inside.bitmap c.args.place c.self.inside.items.items c.requires c.self.invariant (bit_set c.self.inside.bitmap c.args.place c.requires c.if-self-bit-ne0.true))

pub returns-else-self-bit-ne0 : goal.returns-else-self-bit-ne0
returns-else-self-bit-ne0 g c =
    sym (absent_stays c.args.place c.args.self.now (ap (item_at c.args.place) (sym c.self.view_is) ∙ (get_none c.self.inside.bitmap c.self.inside.items.items c.args.place c.requires c.if-self-bit-ne0.false)))
