use Rattle.std.proofs.Common.{rules}
use Rattle.rpds_hash.proofs.Words.{◌≡◌, ◌+◌, ◌≤◌, ◌∷◌, length, IfOk-weaker, find}
use Rattle.rpds_hash_trie.proofs.FromIter.{put_longer}
use Rattle.rpds_hash_trie.proofs.KeyLaws.{find_after}
use Rattle.rpds_hash_trie.proofs.MapGet.{within_digits}
use Rattle.rpds_hash.proofs.map.hash_trie_map.HashTrieMap.insert_counted.Goals as goal

pub returns-clause-size : goal.returns-clause-size
returns-clause-size g c =
    let old = c.args.self.now.entries in
    let all = put_longer g.K.PartialEq.eq g.met.K.Eq.laws (c.args.key, c.args.value) old _ c.in_ok-root.ensures.ok.pairs in
    IfOk-weaker c.of_root.result _ (λ m. length m.entries ≤ length old + 1) (λ m made. rw made all) c.of_root.ensures

pub returns-clause-found : goal.returns-clause-found
returns-clause-found g c =
    let eq = g.K.PartialEq.eq in
    let put = (c.args.key, c.args.value) ∷ c.args.self.now.entries in
    let grown = c.in_ok-root.ensures.ok in
    let all = find_after g.met.K.Eq.laws (c.args.key, c.args.value) c.args.self.now.entries _ grown.pairs grown.map_is.apart in
    IfOk-weaker c.of_root.result _ (λ m. (k : g.row.K.Denot) → find eq k m.entries ≡ find eq k put) (λ m made. rw made all) c.of_root.ensures

pub returns-in_err-root-clause-made : goal.returns-in_err-root-clause-made
returns-in_err-root-clause-made g c = within_digits g.K.PartialEq.eq c.args.key _ _ c.args.self.now 2 c.grown.ensures.made

pub returns-clause-made : goal.returns-clause-made
returns-clause-made g c = within_digits g.K.PartialEq.eq c.args.key _ _ c.args.self.now 2 c.grown.ensures.made

pub returns-in_err-root-clause-path : goal.returns-in_err-root-clause-path
returns-in_err-root-clause-path g c = c.grown.ensures.made

pub returns-in_err-root-clause-first : goal.returns-in_err-root-clause-first
returns-in_err-root-clause-first g c = c.grown.ensures.first

pub returns-clause-path : goal.returns-clause-path
returns-clause-path g c = c.grown.ensures.made

pub returns-clause-first : goal.returns-clause-first
returns-clause-first g c = c.grown.ensures.first

pub returns-clause-makes : goal.returns-clause-makes
returns-clause-makes g c = search rules
