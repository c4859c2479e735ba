use Rattle.rpds_hash_trie.proofs.Words.{sym, ap, ◌∙◌, ◌≡◌, length, vec_len, refl, rules, slice_get_read, item_at}
use Rattle.rpds_hash_trie.proofs.ArrayGet.{get_none, get_some}
use Rattle.rpds_hash_trie.proofs.ArraySet.{set_within}
use Rattle.rpds_hash_trie.proofs.sparse_array_usize.SparseArrayUsize.get.Goals as goal

pub returns-then-self-bit-eq0 : goal.returns-then-self-bit-eq0
returns-then-self-bit-eq0 g c = sym (ap (item_at c.args.place) (sym c.self.view_is) ∙ get_none c.self.inside.bitmap c.self.inside.items.items c.args.place c.requires c.if-self-bit-eq0.true)

pub index-requires : goal.index-requires
index-requires g c = let e : vec_len c.self.inside.items ≡ length c.self.inside.items.items = search rules in rw e (set_within c.self.inside.bitmap c.args.place c.self.inside.items.items c.requires c.self.invariant c.if-self-bit-eq0.false)

pub returns-else-self-bit-eq0 : goal.returns-else-self-bit-eq0
returns-else-self-bit-eq0 g c =
    let xs = c.self.inside.items.items in
    let within = set_within c.self.inside.bitmap c.args.place xs c.requires c.self.invariant c.if-self-bit-eq0.false in
    let p = get_some c.self.inside.bitmap xs c.args.place c.requires c.self.invariant c.if-self-bit-eq0.false in
    rw (← c.self.view_is) (sym (slice_get_read xs (length xs) _ c.index.result.now refl within c.index.ensures) ∙ sym p)
