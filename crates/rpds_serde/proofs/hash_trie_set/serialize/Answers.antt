use Rattle.std.proofs.Common.{OnOk}
use Rattle.std.specs.Map.Iter.{deref}
use Rattle.serde.specs.Event.{WritesSeq}
use Rattle.rpds_serde.proofs.Walked.{walked}
use Rattle.rpds_serde.proofs.hash_trie_set.serialize.Goals as goal

pub returns : goal.returns
returns g c =
    let written = g.S.Serializer.written in
    walked deref (λ xs. OnOk c.write_sequence.result (WritesSeq g.T.Described.writes xs (written c.args.out.now) (written c.write_sequence.new.out)))
    c.write_sequence.ensures c.iter.ensures.rest c.len.ensures.count
