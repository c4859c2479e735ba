use Rattle.rpds_tree.proofs.RankLaws.{pairs_between, pairs_from}
use Rattle.rpds_tree.proofs.laws.range_len_is_lawful.Goals as goal

pub returns-clause-from : goal.returns-clause-from
returns-clause-from g c = pairs_from g.met.K.Ord.total

pub returns-clause-between : goal.returns-clause-between
returns-clause-between g c = pairs_between g.met.K.Ord.total
