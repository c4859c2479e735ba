use Rattle.rpds_hash.specs.HashedMap.{key_hash}
use Rattle.rpds_table.specs.Compared.{compared}
use Rattle.rpds_table.proofs.Answered.{answers_agree}
use Rattle.rpds_table.proofs.table.determined.answer_is_lawful.Goals as goal

pub returns : goal.returns
returns g c t u question here there same =
    answers_agree (compared g.K.PartialEq.eq g.K.Ord.cmp) (compared g.V.PartialEq.eq g.V.Ord.cmp) g.met.K.Eq.laws g.met.V.Eq.laws
    (key_hash g.H.BuildHasher g.H.Hasher.Hasher g.K.Hash.hash_input) t u here there same question
