use Rattle.std.proofs.Common.{rules}
use Rattle.rpds_table.proofs.table.version.Version.share.Goals as goal

pub returns-in_ok-clone_counted-in-List-clause-shared : goal.returns-in_ok-clone_counted-in-List-clause-shared
returns-in_ok-clone_counted-in-List-clause-shared g c = search rules
