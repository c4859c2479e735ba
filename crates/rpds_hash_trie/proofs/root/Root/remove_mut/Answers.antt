use Rattle.rpds_hash_trie.proofs.Words.{refl, matches, either_same}
use Rattle.rpds_hash_trie.proofs.NodeRemoveMut.{absent_root}
use Rattle.rpds_hash_trie.proofs.root.Root.remove_mut.Goals as goal

pub returns-in-NotFound-clause-ok : goal.returns-in-NotFound-clause-ok
returns-in-NotFound-clause-ok g c =
    let seen = rw c.in-Some.is at c.self.view_is in
    let same = either_same (λ x. x) c.in_ok-node.ensures.value in
    let holds = c.own.follows.holds c.remove_mut.new.self (rw c.in_ok-node.was refl) in
    let removed = rw c.in-NotFound.is at c.in_ok-remove_mut.ensures.ok in
    absent_root (matches g.Q.HashKey.same (g.Q.HashKey.seen c.args.key) c.args.hash) c.args.self.now c.in-Some.node.value seen _ same (c.own.follows.lender c.remove_mut.new.self).value _ holds removed
