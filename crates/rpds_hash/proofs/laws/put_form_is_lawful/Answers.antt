use Rattle.rpds_hash_trie.proofs.MapGet.{find_alike}
use Rattle.rpds_hash.proofs.FormLaws.{found_beside}
use Rattle.rpds_hash.proofs.laws.put_form_is_lawful.Goals as goal

pub returns-clause-found : goal.returns-clause-found
returns-clause-found g c = find_alike g.K.PartialEq.eq g.Q.HashKey.same (g.Q.HashKey.seen c.args.form) (g.met.Q.HashKey.tests c.args.form).alike c.args.key.now

pub returns-clause-others : goal.returns-clause-others
returns-clause-others g c = λ apart value. found_beside g.K.PartialEq.eq g.Q.HashKey.same (g.Q.HashKey.seen c.args.form) (g.met.Q.HashKey.tests c.args.form).alike (c.args.key.now, value) apart

pub returns-clause-itself : goal.returns-clause-itself
returns-clause-itself g c = g.met.K.Eq.laws.refl c.args.key.now
