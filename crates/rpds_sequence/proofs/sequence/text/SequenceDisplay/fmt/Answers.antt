use Rattle.std.specs.Fmt.{DisplaysOnOk, DisplaysStyledOnOk, debug_list}
use Rattle.rpds_core.proofs.KnownLists.{item, shows}
use Rattle.rpds_sequence.proofs.sequence.text.SequenceDisplay.fmt.Goals as goal

pub returns-clause-writes : goal.returns-clause-writes
returns-clause-writes g c =
    shows item (λ text xs. DisplaysOnOk g.W.Write.write_str_gives c.args.f.now c.write_between.result (debug_list text xs) c.write_between.new.f)
    g.T.Display.output c.write_between.ensures.writes c.iter.ensures

pub returns-clause-styled : goal.returns-clause-styled
returns-clause-styled g c =
    shows item (λ text xs. DisplaysStyledOnOk g.W.Write.write_str_gives c.args.f.now c.write_between.result (debug_list text xs) c.write_between.new.f)
    (λ x. g.T.Display.styled_output x c.args.f.now.spec) c.write_between.ensures.styled c.iter.ensures
