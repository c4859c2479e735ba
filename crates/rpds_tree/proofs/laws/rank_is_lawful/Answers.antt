use Rattle.rpds_tree.proofs.RankLaws.{pair_at_rank, rank_of_pair}
use Rattle.rpds_tree.proofs.laws.rank_is_lawful.Goals as goal

pub returns-clause-at : goal.returns-clause-at
returns-clause-at g c = pair_at_rank g.met.K.Ord.total

pub returns-clause-found : goal.returns-clause-found
returns-clause-found g c = rank_of_pair g.met.K.Ord.total
