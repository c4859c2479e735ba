use Rattle.std.proofs.Common.{OnOk}
use Rattle.std.specs.Map.Iter.{deref_pair}
use Rattle.serde.specs.Event.{WritesMap}
use Rattle.rpds_serde.proofs.Walked.{walked}
use Rattle.rpds_serde.proofs.hash_trie_map.serialize.Goals as goal

pub returns : goal.returns
returns g c =
    let written = g.S.Serializer.written in
    walked deref_pair (λ es. OnOk c.write_map.result (WritesMap g.K.Described.writes g.V.Described.writes es (written c.args.out.now) (written c.write_map.new.out)))
    c.write_map.ensures c.iter.ensures.rest c.len.ensures.count
