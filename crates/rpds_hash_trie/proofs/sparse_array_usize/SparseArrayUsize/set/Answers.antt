use Rattle.std.proofs.Common.{ap, ◌∙◌, ◌≡◌, ◌+◌, length, vec_len, rules}
use Rattle.rpds_hash_trie.proofs.ArraySet.{insert_within, set_within, count_more, set_new, set_old}
use Rattle.rpds_hash_trie.proofs.sparse_array_usize.SparseArrayUsize.set.Goals as goal

pub insert-requires : goal.insert-requires
insert-requires g c = let e : vec_len c.self.inside.items ≡ length c.self.inside.items.items = search rules in rw e (insert_within c.self.inside.bitmap c.args.place c.self.inside.items.items c.requires c.self.invariant)

pub index_mut-requires : goal.index_mut-requires
index_mut-requires g c = let e : vec_len c.self.inside.items ≡ length c.self.inside.items.items = search rules in rw e (set_within c.self.inside.bitmap c.args.place c.self.inside.items.items c.requires c.self.invariant c.if-self-bit-eq0.false)

pub invariant_of-self-then-self-bit-eq0 : goal.invariant_of-self-then-self-bit-eq0
invariant_of-self-then-self-bit-eq0 g c =
    let old : vec_len c.self.inside.items ≡ length c.self.inside.items.items = search rules in
    let new : length c.insert.new.self.items ≡ vec_len c.insert.new.self = search rules in
    new ∙ c.in-Ok.ensures.len ∙ ap (λ n. n + 1) old ∙ count_more c.self.inside.bitmap c.args.place (length c.self.inside.items.items) c.requires c.if-self-bit-eq0.true c.self.invariant

pub returns-in-Ok-clause-ok : goal.returns-in-Ok-clause-ok
returns-in-Ok-clause-ok g c = rw (c.in-Ok.ensures.items, ← c.self.view_is) (set_new c.args.item c.self.inside.bitmap c.args.place c.self.inside.items.items c.requires c.self.invariant c.if-self-bit-eq0.true)

pub returns-else-self-bit-eq0-clause-ok : goal.returns-else-self-bit-eq0-clause-ok
returns-else-self-bit-eq0-clause-ok g c = rw (← c.self.view_is) (set_old c.args.item c.self.inside.bitmap c.args.place c.self.inside.items.items c.requires c.self.invariant c.if-self-bit-eq0.false)

pub invariant_of-self : goal.invariant_of-self
invariant_of-self g c = search rules

pub returns-in_default-clause-err : goal.returns-in_default-clause-err
returns-in_default-clause-err g c = search rules
