use Rattle.rpds_core.proofs.Rows.{behind_clones}
use Rattle.rpds_core.proofs.row.copied.Goals as goal

pub returns-clause-same : goal.returns-clause-same
returns-clause-same g c = behind_clones c.args.row.now c.in_ok-copy.copy.items c.in_ok-copy.ensures.items
