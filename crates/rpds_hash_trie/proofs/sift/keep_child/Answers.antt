use Rattle.rpds_hash_trie.proofs.Words.{ap, ◌∙◌, seen, put_at}
use Rattle.std.proofs.lemmas.Result.{on_ok_weaker}
use Rattle.rpds_hash_trie.proofs.NodeInsert.{put_seen}
use Rattle.rpds_hash_trie.proofs.sift.keep_child.Goals as goal

pub returns-in_ok-set-in-Left-clause-ok : goal.returns-in_ok-set-in-Left-clause-ok
returns-in_ok-set-in-Left-clause-ok g c =
    rw (c.in-Left.is, c.in-None.is)
    (ap seen c.in_ok-set-in-Left.ensures.ok ∙ put_seen c.args.place c.in-Left.node c.in_ok-first-in-Left.first
    ∙ ap (put_at c.args.place c.in-Left.node.value) c.in_ok-first-in-Left.ensures)

pub returns-in_ok-clone-in-Absent-left-clause-ok : goal.returns-in_ok-clone-in-Absent-left-clause-ok
returns-in_ok-clone-in-Absent-left-clause-ok g c =
    let own = c.in_ok-clone-in-Absent-left.field-0 in
    rw (c.in-Absent-left.is, c.in-Some.is) (on_ok_weaker c.set-in-Absent-left.result
    (λ is. ap seen is ∙ put_seen c.args.place own c.in-Some.children ∙ ap (λ v. put_at c.args.place v (seen c.in-Some.children))
    c.in_ok-clone-in-Absent-left.ensures.cases) c.set-in-Absent-left.ensures.ok)

pub returns-in-Left-left-clause-ok : goal.returns-in-Left-left-clause-ok
returns-in-Left-left-clause-ok g c =
    rw (c.in-Left-left.is, c.in-Some.is) (on_ok_weaker c.set-in-Left-left.result
    (λ is. ap seen is ∙ put_seen c.args.place c.in-Left-left.node c.in-Some.children) c.set-in-Left-left.ensures.ok)
