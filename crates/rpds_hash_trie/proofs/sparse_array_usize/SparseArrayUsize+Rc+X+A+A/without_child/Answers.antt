use Rattle.rpds_hash_trie.proofs.Words.{sym, ap, ◌∙◌, length, behind, behind_length}
use Rattle.rpds_hash_trie.proofs.Behind.{seen_placed}
use Rattle.rpds_hash_trie.proofs.ArrayRemove.{is_set, bit_fits, count_less, taken, taken_within, length_removed}
use Rattle.rpds_hash_trie.proofs.sparse_array_usize.SparseArrayUsize+Rc+X+A+A.without_child.Goals as goal

pub with_removed-requires : goal.with_removed-requires
with_removed-requires g c =
    rw c.deref.ensures.value (taken_within c.self.inside.bitmap c.args.place c.self.inside.items.items c.requires.place c.self.invariant (is_set c.self.inside.bitmap c.args.place c.self.inside.items.items (rw c.self.view_is c.requires.there)))

pub overflow_sub-result : goal.overflow_sub-result
overflow_sub-result g c = bit_fits c.self.inside.bitmap c.args.place c.requires.place (is_set c.self.inside.bitmap c.args.place c.self.inside.items.items (rw c.self.view_is c.requires.there))

pub invariant_of-result : goal.invariant_of-result
invariant_of-result g c =
    let rcs = c.self.inside.items.items in
    let b = c.self.inside.bitmap in
    let on = is_set b c.args.place rcs (rw c.self.view_is c.requires.there) in
    let is = rw c.deref.ensures.value at c.in_ok-items.ensures in
    let l = behind_length rcs ∙ c.self.invariant in
    let within = taken_within b c.args.place (behind rcs) c.requires.place l on in
    sym (behind_length c.in_ok-items.items.items) ∙ ap length is ∙ length_removed (behind rcs) _ within ∙ count_less b c.args.place (length (behind rcs)) c.requires.place on l

pub returns : goal.returns
returns g c =
    let rcs = c.self.inside.items.items in
    let b = c.self.inside.bitmap in
    let on = is_set b c.args.place rcs (rw c.self.view_is c.requires.there) in
    let is = rw c.deref.ensures.value at c.in_ok-items.ensures in
    rw (seen_placed _ c.in_ok-items.items.items, is, ← c.self.view_is, seen_placed b rcs)
    (taken b c.args.place (behind rcs) c.requires.place (behind_length rcs ∙ c.self.invariant) on)
