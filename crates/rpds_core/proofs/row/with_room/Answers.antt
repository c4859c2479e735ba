use Rattle.rpds_core.proofs.Rows.{behind_clones}
use Rattle.rpds_core.proofs.row.with_room.Goals as goal

pub returns-clause-same : goal.returns-clause-same
returns-clause-same g c =
    let added = c.in_ok-extend_with_clones.ensures.items in
    rw (added.1, c.in_ok-copy.ensures.items) (behind_clones c.args.row.now added.0 added.2)
