use Rattle.rpds_hash_trie.proofs.Words.{sym, ap, ◌∙◌, length, behind, behind_length}
use Rattle.rpds_hash_trie.proofs.Behind.{seen_placed}
use Rattle.rpds_hash_trie.proofs.ArraySet.{insert_within, set_within, count_more, set_new, set_old, length_inserted, length_set}
use Rattle.rpds_hash_trie.proofs.sparse_array_usize.SparseArrayUsize+Rc+X+A+A.with_child.Goals as goal

pub with_inserted-requires-clause-at : goal.with_inserted-requires-clause-at
with_inserted-requires-clause-at g c = rw c.deref.ensures.value (insert_within c.self.inside.bitmap c.args.place c.self.inside.items.items c.requires c.self.invariant)

pub with_changed-requires : goal.with_changed-requires
with_changed-requires g c = rw c.deref-else-self-bit-eq0.ensures.value (set_within c.self.inside.bitmap c.args.place c.self.inside.items.items c.requires c.self.invariant c.if-self-bit-eq0.false)

pub invariant_of-result : goal.invariant_of-result
invariant_of-result g c =
    let rcs = c.self.inside.items.items in
    let b = c.self.inside.bitmap in
    let is = rw c.deref.ensures.value at c.in_ok-items.ensures in
    let l = behind_length rcs ∙ c.self.invariant in
    let within = insert_within b c.args.place (behind rcs) c.requires l in
    sym (behind_length c.in_ok-items.items.items) ∙ ap length is ∙ length_inserted (behind rcs) _ c.args.child.value within ∙ count_more b c.args.place (length (behind rcs)) c.requires c.if-self-bit-eq0.true l

pub invariant_of-result-else-self-bit-eq0 : goal.invariant_of-result-else-self-bit-eq0
invariant_of-result-else-self-bit-eq0 g c =
    let rcs = c.self.inside.items.items in
    let is = rw c.deref-else-self-bit-eq0.ensures.value at c.in_ok-items-2.ensures in
    sym (behind_length c.in_ok-items-2.items.items) ∙ ap length is ∙ length_set (behind rcs) _ c.args.child.value ∙ behind_length rcs ∙ c.self.invariant

pub returns-in_ok-items : goal.returns-in_ok-items
returns-in_ok-items g c =
    let rcs = c.self.inside.items.items in
    let b = c.self.inside.bitmap in
    let is = rw c.deref.ensures.value at c.in_ok-items.ensures in
    rw (seen_placed _ c.in_ok-items.items.items, is, ← c.self.view_is, seen_placed b rcs)
    (set_new c.args.child.value b c.args.place (behind rcs) c.requires (behind_length rcs ∙ c.self.invariant) c.if-self-bit-eq0.true)

pub returns-in_ok-items-2 : goal.returns-in_ok-items-2
returns-in_ok-items-2 g c =
    let rcs = c.self.inside.items.items in
    let b = c.self.inside.bitmap in
    let is = rw c.deref-else-self-bit-eq0.ensures.value at c.in_ok-items-2.ensures in
    rw (seen_placed _ c.in_ok-items-2.items.items, is, ← c.self.view_is, seen_placed b rcs)
    (set_old c.args.child.value b c.args.place (behind rcs) c.requires (behind_length rcs ∙ c.self.invariant) c.if-self-bit-eq0.false)
