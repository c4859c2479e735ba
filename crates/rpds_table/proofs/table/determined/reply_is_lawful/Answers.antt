use Rattle.rpds_hash.specs.HashedMap.{key_hash}
use Rattle.rpds_table.specs.Compared.{compared}
use Rattle.rpds_table.proofs.Determined.{replies_agree, runs_agree}
use Rattle.rpds_table.proofs.table.determined.reply_is_lawful.Goals as goal

pub returns-clause-step : goal.returns-clause-step
returns-clause-step g c = replies_agree (compared g.K.PartialEq.eq g.K.Ord.cmp) (key_hash g.H.BuildHasher g.H.Hasher.Hasher g.K.Hash.hash_input)

pub returns-clause-run : goal.returns-clause-run
returns-clause-run g c t u t' u' commands xs ys =
    runs_agree (compared g.K.PartialEq.eq g.K.Ord.cmp) (key_hash g.H.BuildHasher g.H.Hasher.Hasher g.K.Hash.hash_input) commands xs ys t u t' u'
