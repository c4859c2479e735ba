use Rattle.std.proofs.Common.{ap, ◌∙◌}
use Rattle.std.proofs.lemmas.Result.{IfOk-weaker}
use Rattle.rpds_hash_trie.specs.HashedMap.{HashedMap, find}
use Rattle.rpds_hash.proofs.SiftedMaps.{kept_both}
use Rattle.rpds_hash.proofs.Unions.{find_shared}
use Rattle.rpds_hash.proofs.map.hash_trie_map.HashTrieMap.intersection.Goals as goal

pub returns-clause-ok : goal.returns-clause-ok
returns-clause-ok g c =
    IfOk-weaker c.kept_by.result _ _ (λ m is. is ∙ (λ i. record c.args.self.now { entries = kept_both g.K.PartialEq.eq c.args.other.now.entries c.args.self.now.entries i })) c.kept_by.ensures

pub returns-clause-found : goal.returns-clause-found
returns-clause-found g c =
    let eq = g.K.PartialEq.eq in
    IfOk-weaker c.kept_by.result _ _ (λ m is k. ap (λ (n : HashedMap g.row.K.Denot g.row.V.Denot g.row.H.Denot). find eq k n.entries) is
    ∙ find_shared (λ p. p.0) g.met.K.Eq.laws c.args.other.now.entries k c.args.self.now.entries) (returns-clause-ok g c)
