use Rattle.rpds_vector.proofs.Words.{DisplaysOnOk, debug_list, item, shows}
use Rattle.rpds_vector.proofs.vector.text.VectorDebug.fmt.Goals as goal

pub returns : goal.returns
returns g c = record {
  writes =
      shows item (λ text xs. DisplaysOnOk g.W.Write.write_str_gives c.args.f.now c.write_list.result (debug_list text xs) c.write_list.new.f)
      g.T.Debug.debug_output c.write_list.ensures c.iter.ensures;
}
