use Rattle.rpds_hash_trie.proofs.FromIter.{find_without, find_without_other}
use Rattle.rpds_hash_trie.proofs.KeyLaws.{distinct_without, length_without}
use Rattle.rpds_hash.proofs.laws.without_is_lawful.Goals as goal

pub returns-clause-absent : goal.returns-clause-absent
returns-clause-absent g c = find_without g.K.PartialEq.eq g.met.K.Eq.laws

pub returns-clause-others : goal.returns-clause-others
returns-clause-others g c = find_without_other g.K.PartialEq.eq g.met.K.Eq.laws

pub returns-clause-distinct : goal.returns-clause-distinct
returns-clause-distinct g c = distinct_without g.met.K.Eq.laws

pub returns-clause-size : goal.returns-clause-size
returns-clause-size g c = length_without g.met.K.Eq.laws
