use Rattle.std.proofs.lemmas.Grind.{common_steps}
use Rattle.rpds_hash_trie.proofs.Words.{◌≡◌, subst, arith, Entry, matches, stored, shown, index_of}
use Rattle.rpds_hash_trie.proofs.Collisions.{put_other, put_last}
use Rattle.rpds_hash_trie.proofs.node.Collision.put.Goals as goal

pub returns-then-at-len-clause-ok : goal.returns-then-at-len-clause-ok
returns-then-at-len-clause-ok g c =
    let t = matches g.K.PartialEq.eq c.args.entry.entry.value.key c.args.entry.key_hash in
    let others = c.args.self.now.others in
    let at = subst (λ (e : Entry g.row.K.Denot g.row.V.Denot). c.index_of-at.result ≡ index_of (matches {V = g.row.V.Denot} g.K.PartialEq.eq e.key c.args.entry.key_hash) (shown c.args.self.now)) c.deref.ensures c.index_of-at.ensures in
    put_other t (stored c.args.self.now.front) others.items c.args.entry c.index_of-at.result at c.if-at-eq0.false (omega (arith, c.len.ensures, c.if-at-len.true, others.ok.0))

pub returns-in_ok-push-clause-ok : goal.returns-in_ok-push-clause-ok
returns-in_ok-push-clause-ok g c =
    let t = matches g.K.PartialEq.eq c.args.entry.entry.value.key c.args.entry.key_hash in
    let others = c.args.self.now.others in
    let at = subst (λ (e : Entry g.row.K.Denot g.row.V.Denot). c.index_of-at.result ≡ index_of (matches {V = g.row.V.Denot} g.K.PartialEq.eq e.key c.args.entry.key_hash) (shown c.args.self.now)) c.deref.ensures c.index_of-at.ensures in
    rw c.in_ok-push.ensures.items (put_last t (stored c.args.self.now.front) others.items c.args.entry c.index_of-at.result at (omega (arith, c.len.ensures, c.if-at-len.false, others.ok.0)))

pub returns-then-at-eq0-clause-ok : goal.returns-then-at-eq0-clause-ok
returns-then-at-eq0-clause-ok g c = grind (arith, common_steps)
