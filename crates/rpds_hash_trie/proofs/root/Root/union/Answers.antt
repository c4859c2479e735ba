use Rattle.rpds_hash_trie.proofs.Words.{◌+◌, ◌<◌, ◌^◌, ap, sym, ◌∙◌, subst, length, Trie}
use Rattle.rpds_hash_trie.specs.HashUnion.{AllOnce}
use Rattle.rpds_hash_trie.proofs.UnitedNodes.{top_can}
use Rattle.rpds_hash_trie.proofs.root.Root.union.Goals as goal

pub union-requires-clause-can : goal.union-requires-clause-can
union-requires-clause-can g c =
    let eq = g.K.PartialEq.eq in
    let seen = rw c.in-Some-node.is at c.self.view_is in
    let seen_other = rw c.in-Some.is at c.other.view_is in
    let top = (rw c.in-Some-node.is at c.self.invariant.at_top).1 in
    top_can c.deref-own.result.now c.deref.result.now c.args.common.now
    (ap (λ (v : Trie g.row.K.Denot g.row.V.Denot). v.depth) c.deref-own.ensures ∙ top)
    (subst (λ (v : Trie g.row.K.Denot g.row.V.Denot). AllOnce eq v.entries) (sym (c.deref-own.ensures ∙ seen)) c.requires.once)
    (subst (λ (v : Trie g.row.K.Denot g.row.V.Denot). AllOnce eq v.entries) (sym (c.deref.ensures ∙ seen_other)) c.requires.once_others)
    (subst (λ (v : Trie g.row.K.Denot g.row.V.Denot). c.args.common.now + length v.entries < 2 ^ 64) (sym (c.deref.ensures ∙ seen_other)) c.requires.room)
