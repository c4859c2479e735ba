use Rattle.rpds_hash_trie.proofs.Words.{sym, ap, ◌∙◌, seen, put_at}
use Rattle.std.proofs.lemmas.Result.{on_ok_weaker}
use Rattle.rpds_hash_trie.specs.HashUnion.{children_or}
use Rattle.rpds_hash_trie.proofs.NodeInsert.{put_seen}
use Rattle.rpds_hash_trie.proofs.union.put_child.Goals as goal

pub returns-in-Some-changed-clause-ok : goal.returns-in-Some-changed-clause-ok
returns-in-Some-changed-clause-ok g c =
    let place = c.args.place in
    let child = c.in-Some.child in
    rw c.in-Some.is (on_ok_weaker c.set.result (λ is. ap seen is ∙ put_seen place child c.in-Some-changed.children
    ∙ ap (λ o. put_at place child.value (children_or (seen c.args.old.now) o)) (sym c.in-Some-changed.is)) c.set.ensures.ok)
