use Rattle.rpds_tree.proofs.RankLaws.{members_between, members_from}
use Rattle.rpds_tree.proofs.laws.range_len_of_set_is_lawful.Goals as goal

pub returns-clause-from : goal.returns-clause-from
returns-clause-from g c = members_from g.met.T.Ord.total

pub returns-clause-between : goal.returns-clause-between
returns-clause-between g c = members_between g.met.T.Ord.total
