use Rattle.std.specs.Fmt.{DisplaysOnOk, debug_list}
use Rattle.rpds_core.proofs.KnownLists.{item, shows}
use Rattle.rpds_sequence.proofs.sequence.text.SequenceDebug.fmt.Goals as goal

pub returns : goal.returns
returns g c = record {
  writes =
      shows item (λ text xs. DisplaysOnOk g.W.Write.write_str_gives c.args.f.now c.write_list.result (debug_list text xs) c.write_list.new.f)
      g.T.Debug.debug_output c.write_list.ensures c.iter.ensures;
}
