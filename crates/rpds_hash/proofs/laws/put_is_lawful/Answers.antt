use Rattle.rpds_hash_trie.proofs.FromIter.{found_others, found_put}
use Rattle.rpds_hash_trie.proofs.KeyLaws.{find_all_put, has_put, length_put}
use Rattle.rpds_hash.proofs.laws.put_is_lawful.Goals as goal

pub returns-clause-found : goal.returns-clause-found
returns-clause-found g c = found_put g.K.PartialEq.eq g.met.K.Eq.laws

pub returns-clause-others : goal.returns-clause-others
returns-clause-others g c = found_others g.K.PartialEq.eq g.met.K.Eq.laws

pub returns-clause-all : goal.returns-clause-all
returns-clause-all g c = find_all_put g.met.K.Eq.laws

pub returns-clause-has : goal.returns-clause-has
returns-clause-has g c = has_put g.met.K.Eq.laws

pub returns-clause-size : goal.returns-clause-size
returns-clause-size g c = length_put g.met.K.Eq.laws
