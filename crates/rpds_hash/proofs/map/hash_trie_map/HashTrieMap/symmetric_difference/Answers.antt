use Rattle.std.proofs.Common.{◌≡◌, ◌∙◌}
use Rattle.std.proofs.lemmas.Result.{IfOk-weaker}
use Rattle.std.specs.Option.{option_or, option_xor}
use Rattle.rpds_hash_trie.specs.HashedMap.{find}
use Rattle.rpds_hash.proofs.Unions.{xor_of}
use Rattle.rpds_hash.proofs.map.hash_trie_map.HashTrieMap.symmetric_difference.Goals as goal

pub returns-clause-found : goal.returns-clause-found
returns-clause-found g c =
    let eq = g.K.PartialEq.eq in
    let mine = c.args.self.now.entries in
    let theirs = c.args.other.now.entries in
    IfOk-weaker c.union.result
    (λ m. (k : g.row.K.Denot) → find eq k m.entries ≡ option_or (find eq k c.in_ok-left.left.entries) (find eq k c.in_ok-others.others.entries))
    (λ m. (k : g.row.K.Denot) → find eq k m.entries ≡ option_xor (find eq k mine) (find eq k theirs))
    (λ m found k. found k ∙ (λ i. option_or (c.in_ok-left.ensures.found k i) (c.in_ok-others.ensures.found k i)) ∙ xor_of (find eq k mine) (find eq k theirs))
    c.union.ensures.found
