use Rattle.rpds_hash_trie.proofs.MapGet.{find_alike, without_alike}
use Rattle.rpds_hash_trie.proofs.MapInsert.{found_gone}
use Rattle.rpds_hash.proofs.laws.form_is_lawful.Goals as goal

pub returns-clause-found : goal.returns-clause-found
returns-clause-found g c = λ form k es y. find_alike g.K.PartialEq.eq g.Q.HashKey.same (g.Q.HashKey.seen form) (g.met.Q.HashKey.tests form).alike k y es

pub returns-clause-left : goal.returns-clause-left
returns-clause-left g c = λ form k es y. without_alike g.K.PartialEq.eq g.Q.HashKey.same (g.Q.HashKey.seen form) (g.met.Q.HashKey.tests form).alike k y es

pub returns-clause-absent : goal.returns-clause-absent
returns-clause-absent g c = λ form es. found_gone g.Q.HashKey.same (g.Q.HashKey.seen form) es
