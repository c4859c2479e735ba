use Rattle.rpds_hash_trie.proofs.Words.{◌≡◌, ◌+◌, ◌<◌, ◌^◌, [], false, ap, sym, ◌∙◌, subst, length, unmatched, Trie}
use Rattle.std.proofs.lemmas.Result.{IfOk-weaker}
use Rattle.rpds_hash_trie.specs.HashSift.{goes}
use Rattle.rpds_hash_trie.specs.HashUnion.{AllOnce}
use Rattle.rpds_hash_trie.proofs.Sifted.{beside_none, on_ok_of}
use Rattle.rpds_hash_trie.proofs.UnitedNodes.{top_can}
use Rattle.rpds_hash_trie.proofs.root.Root.sift.Goals as goal

pub sift-requires-clause-can : goal.sift-requires-clause-can
sift-requires-clause-can g c =
    let eq = g.K.PartialEq.eq in
    let seen = rw c.in-Some.is at c.self.view_is in
    let seen_other = rw c.in-Some-node.is at c.other.view_is in
    let top = (rw c.in-Some-node.is at c.other.invariant.at_top).1 in
    top_can c.deref.result.now c.deref-own.result.now c.args.common.now
    (ap (λ (v : Trie g.row.K.Denot g.row.V.Denot). v.depth) c.deref.ensures ∙ top)
    (subst (λ (v : Trie g.row.K.Denot g.row.V.Denot). AllOnce eq v.entries) (sym (c.deref.ensures ∙ seen_other)) c.requires.once_others)
    (subst (λ (v : Trie g.row.K.Denot g.row.V.Denot). AllOnce eq v.entries) (sym (c.deref-own.ensures ∙ seen)) c.requires.once)
    (subst (λ (v : Trie g.row.K.Denot g.row.V.Denot). c.args.common.now + length v.entries < 2 ^ 64) (sym (c.deref-own.ensures ∙ seen)) c.requires.room)

pub returns-in-None-clause-rest : goal.returns-in-None-clause-rest
returns-in-None-clause-rest g c =
    let eq = g.K.PartialEq.eq in
    let xs = c.args.self.now.entries in
    let none : c.args.other.now.entries ≡ [] = ap (λ (v : Trie g.row.K.Denot g.row.V.Denot). v.entries) (sym (rw c.in-None.is at c.other.view_is)) in
    let left = sym (beside_none eq c.args.both xs) ∙ ap (λ l. unmatched (goes eq c.args.both l) xs) (sym none) in
    IfOk-weaker c.sift_beside_none.result _ _ (λ r is. is ∙ (λ i. record c.args.self.now { entries = left i })) c.sift_beside_none.ensures

pub returns-in-None-clause-counted : goal.returns-in-None-clause-counted
returns-in-None-clause-counted g c =
    let eq = g.K.PartialEq.eq in
    let xs = c.args.self.now.entries in
    let none : c.args.other.now.entries ≡ [] = ap (λ (v : Trie g.row.K.Denot g.row.V.Denot). v.entries) (sym (rw c.in-None.is at c.other.view_is)) in
    let all = ap (λ l. unmatched (goes eq false l) xs) none ∙ beside_none eq false xs in
    on_ok_of c.sift_beside_none.result (ap (λ l. c.args.common.now + length l) all)
