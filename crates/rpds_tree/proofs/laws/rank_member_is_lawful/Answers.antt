use Rattle.rpds_tree.proofs.RankLaws.{member_at_rank, rank_of_member}
use Rattle.rpds_tree.proofs.laws.rank_member_is_lawful.Goals as goal

pub returns-clause-at : goal.returns-clause-at
returns-clause-at g c = member_at_rank g.met.T.Ord.total

pub returns-clause-found : goal.returns-clause-found
returns-clause-found g c = rank_of_member g.met.T.Ord.total
