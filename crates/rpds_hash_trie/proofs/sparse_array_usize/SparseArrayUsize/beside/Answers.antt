use Rattle.rpds_hash_trie.proofs.Words.{sym, ap, ◌∙◌, length, arith, remove}
use Rattle.rpds_hash_trie.proofs.ArrayGet.{length_placed}
use Rattle.rpds_hash_trie.proofs.ArrayPop.{other_of_two}
use Rattle.rpds_hash_trie.proofs.ArrayRemove.{is_set, taken, taken_within, first_placed, count_less, length_removed}
use Rattle.rpds_hash_trie.proofs.sparse_array_usize.SparseArrayUsize.beside.Goals as goal

pub overflow_sub-at-2 : goal.overflow_sub-at-2
overflow_sub-at-2 g c =
    let xs = c.self.inside.items.items in
    let on = is_set c.self.inside.bitmap c.args.place xs (rw c.self.view_is c.requires.there) in
    let within = taken_within c.self.inside.bitmap c.args.place xs c.requires.small c.self.invariant on in
    let two = sym (length_placed c.self.inside.bitmap xs c.self.invariant) ∙ ap length c.self.view_is ∙ c.requires.two in
    omega (arith, within, two)

pub returns : goal.returns
returns g c =
    let xs = c.self.inside.items.items in
    let b = c.self.inside.bitmap in
    let on = is_set b c.args.place xs (rw c.self.view_is c.requires.there) in
    let within = taken_within b c.args.place xs c.requires.small c.self.invariant on in
    let two = sym (length_placed b xs c.self.invariant) ∙ ap length c.self.view_is ∙ c.requires.two in
    let count = length_removed xs _ within ∙ count_less b c.args.place (length xs) c.requires.small on c.self.invariant in
    let first = first_placed _ (remove xs _) count in
    let gone = taken b c.args.place xs c.requires.small c.self.invariant on in
    rw (← c.self.view_is, ← gone) ((rw c.deref.ensures.value at c.item_of.ensures) ∙ other_of_two xs _ two within ∙ sym first)
