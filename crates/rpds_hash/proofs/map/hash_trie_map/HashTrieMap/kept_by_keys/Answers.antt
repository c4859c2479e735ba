use Rattle.std.proofs.Common.{Bool, rules}
use Rattle.std.proofs.lemmas.Fn.{filter_same}
use Rattle.rpds_hash.specs.Kept.{keeps}
use Rattle.rpds_hash.proofs.SiftedMaps.{passed_map}
use Rattle.rpds_hash.proofs.map.hash_trie_map.HashTrieMap.kept_by_keys.Goals as goal

pub returns : goal.returns
returns g c =
    let test : g.row.K.Denot × g.row.V.Denot → Bool = keeps g.K.PartialEq.eq c.args.both c.args.other.now.entries in
    passed_map test c.args.self.now c.in_ok-left.left c.retain.new.self c.in_ok-left.ensures c.in_ok-retain.ensures.same
    (filter_same _ test _ (λ x b f' k. search rules) _ _ c.in_ok-retain.ensures.ok)
