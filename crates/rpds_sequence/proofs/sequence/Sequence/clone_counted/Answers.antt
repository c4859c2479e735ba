use Rattle.std.proofs.Common.{rules}
use Rattle.rpds_sequence.proofs.sequence.Sequence.clone_counted.Goals as goal

pub returns-clause-counts : goal.returns-clause-counts
returns-clause-counts g c = search rules

pub returns-in_err-share-clause-counts : goal.returns-in_err-share-clause-counts
returns-in_err-share-clause-counts g c = search rules
