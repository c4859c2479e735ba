use Rattle.rpds_hash.proofs.MemberLaws.{find_member_alike, found_member_gone, without_member_alike}
use Rattle.rpds_hash.proofs.laws.member_form_is_lawful.Goals as goal

pub returns-clause-found : goal.returns-clause-found
returns-clause-found g c = λ form x ms y. find_member_alike g.T.PartialEq.eq g.Q.HashKey.same (g.Q.HashKey.seen form) (g.met.Q.HashKey.tests form).alike x y ms

pub returns-clause-left : goal.returns-clause-left
returns-clause-left g c = λ form x ms y. without_member_alike g.T.PartialEq.eq g.Q.HashKey.same (g.Q.HashKey.seen form) (g.met.Q.HashKey.tests form).alike x y ms

pub returns-clause-absent : goal.returns-clause-absent
returns-clause-absent g c = λ form ms. found_member_gone g.Q.HashKey.same (g.Q.HashKey.seen form) ms
