use Rattle.rpds_hash.proofs.MapRemove.{unchanged, shrunk_view, ok_along}
use Rattle.rpds_hash_trie.proofs.MapGet.{within_digits}
use Rattle.rpds_hash.proofs.map.hash_trie_map.HashTrieMap.remove_counted.Goals as goal

pub returns-in-None-clause-ok : goal.returns-in-None-clause-ok
returns-in-None-clause-ok g c =
    let none = rw c.in-None.is at c.in_ok-shrunk.ensures.ok in
    ok_along (unchanged g.Q.HashKey.same (g.Q.HashKey.seen c.args.key) c.args.self.now none) c.clone.result c.clone.ensures

pub returns-in-Some-clause-ok : goal.returns-in-Some-clause-ok
returns-in-Some-clause-ok g c =
    let left = rw c.in-Some.is at c.in_ok-shrunk.ensures.ok in
    ok_along (shrunk_view g.K.PartialEq.eq _ g.Q.HashKey.same (g.Q.HashKey.seen c.args.key) c.args.self.now _ _ left) c.of_root.result c.of_root.ensures

pub returns-in_err-shrunk-clause-made : goal.returns-in_err-shrunk-clause-made
returns-in_err-shrunk-clause-made g c = within_digits g.Q.HashKey.same (g.Q.HashKey.seen c.args.key) _ _ c.args.self.now 1 c.shrunk.ensures.made

pub returns-in-None-clause-made : goal.returns-in-None-clause-made
returns-in-None-clause-made g c = within_digits g.Q.HashKey.same (g.Q.HashKey.seen c.args.key) _ _ c.args.self.now 1 c.shrunk.ensures.made

pub returns-in-Some-clause-made : goal.returns-in-Some-clause-made
returns-in-Some-clause-made g c = within_digits g.Q.HashKey.same (g.Q.HashKey.seen c.args.key) _ _ c.args.self.now 1 c.shrunk.ensures.made
