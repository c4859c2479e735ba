use Rattle.rpds_hash_trie.proofs.KeyLaws.{find_at, find_permuted, find_same, find_tied, permuted_alike}
use Rattle.rpds_hash.proofs.laws.find_is_lawful.Goals as goal

pub returns-clause-permuted : goal.returns-clause-permuted
returns-clause-permuted g c = find_permuted g.met.K.Eq.laws

pub returns-clause-alike : goal.returns-clause-alike
returns-clause-alike g c = permuted_alike g.met.K.Eq.laws

pub returns-clause-at : goal.returns-clause-at
returns-clause-at g c = find_at g.met.K.Eq.laws

pub returns-clause-same : goal.returns-clause-same
returns-clause-same g c = find_same g.met.K.Eq.laws

pub returns-clause-tied : goal.returns-clause-tied
returns-clause-tied g c = find_tied g.met.K.Eq.laws
