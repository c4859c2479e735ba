use Rattle.std.specs.Fmt.{DisplaysOnOk, DisplaysStyledOnOk}
use Rattle.rpds_core.proofs.KnownLists.{item, shows}
use Rattle.rpds_list.specs.QueueText.{queue_text}
use Rattle.rpds_list.proofs.queue.text.QueueDisplay.fmt.Goals as goal

pub returns-clause-writes : goal.returns-clause-writes
returns-clause-writes g c =
    shows item (λ text xs. DisplaysOnOk g.W.Write.write_str_gives c.args.f.now c.write_between.result (queue_text text xs) c.write_between.new.f)
    g.T.Display.output c.write_between.ensures.writes c.from_front.ensures

pub returns-clause-styled : goal.returns-clause-styled
returns-clause-styled g c =
    shows item (λ text xs. DisplaysStyledOnOk g.W.Write.write_str_gives c.args.f.now c.write_between.result (queue_text text xs) c.write_between.new.f)
    (λ x. g.T.Display.styled_output x c.args.f.now.spec) c.write_between.ensures.styled c.from_front.ensures
