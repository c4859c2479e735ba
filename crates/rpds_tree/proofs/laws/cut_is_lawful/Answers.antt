use Rattle.rpds_tree.proofs.CutLaws.{cut_apart, cut_whole}
use Rattle.rpds_tree.proofs.laws.cut_is_lawful.Goals as goal

pub returns-clause-apart : goal.returns-clause-apart
returns-clause-apart g c = cut_apart g.met.K.Ord.total

pub returns-clause-whole : goal.returns-clause-whole
returns-clause-whole g c = cut_whole g.met.K.Ord.total
