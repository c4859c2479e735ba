use Rattle.rpds_tree.proofs.SetCutLaws.{members_apart, members_whole}
use Rattle.rpds_tree.proofs.laws.cut_of_set_is_lawful.Goals as goal

pub returns-clause-apart : goal.returns-clause-apart
returns-clause-apart g c = members_apart g.met.T.Ord.total

pub returns-clause-whole : goal.returns-clause-whole
returns-clause-whole g c = members_whole g.met.T.Ord.total
