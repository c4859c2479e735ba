use Rattle.rpds_hash_trie.proofs.Words.{sym, ap, ◌∙◌, ◌≡◌, length, vec_len, set, rules, arith, slice_get_past, item_at, put_at}
use Rattle.rpds_hash_trie.specs.Places.{placed}
use Rattle.rpds_hash_trie.proofs.ArrayGet.{get_none, get_some}
use Rattle.rpds_hash_trie.proofs.ArraySet.{set_old}
use Rattle.rpds_hash_trie.proofs.ArrayGetMut.{read_same, now_is}
use Rattle.rpds_hash_trie.proofs.sparse_array_usize.SparseArrayUsize.get_mut.Goals as goal
use Rattle.rpds_hash_trie.proofs.sparse_array_usize.SparseArrayUsize.get_mut.Goals.{then-self-bit-eq0, else-self-bit-eq0}

pub returns : goal.returns
returns g c =
    let b = c.self.inside.bitmap in
    let xs = c.self.inside.items.items in
    let p = c.args.place in
    let r = c.get_mut.result in
    let at = c.if-self-bit-eq0.at in
    let size : vec_len c.self.inside.items ≡ length xs = search rules in
    let some = rw size at c.get_mut.ensures.variant in
    let is = now_is r xs at some c.get_mut.ensures.value in
    elim c.if-self-bit-eq0.branch [
      | then-self-bit-eq0 w ↦
          let end : at ≡ length xs = w.at-is ∙ w.len-at.ensures ∙ size in (
            read_same r (λ x. placed b (set xs at x)) (λ x. put_at p x c.args.self.now) (placed b xs) c.args.self.now (λ s. absurd (omega (arith, some.0 s, end))) c.self.view_is,
            record { writes_back = tt; found = is ∙ slice_get_past xs at (omega (arith, end)) ∙ sym (ap (item_at p) (sym c.self.view_is) ∙ get_none b xs p c.requires w.if-self-bit-eq0.true) },
          )
      | else-self-bit-eq0 w ↦ (
        read_same r (λ x. placed b (set xs at x)) (λ x. put_at p x c.args.self.now) (placed b xs) c.args.self.now (λ s x. rw (w.at-is, ← c.self.view_is) (set_old x b p xs c.requires c.self.invariant w.if-self-bit-eq0.false)) c.self.view_is,
        record { writes_back = tt; found = is ∙ rw (w.at-is, ← c.self.view_is) (sym (get_some b xs p c.requires c.self.invariant w.if-self-bit-eq0.false)) },
      )
    ]
