use Rattle.rpds_hash.specs.HashedMap.{key_hash}
use Rattle.rpds_table.specs.Compared.{compared}
use Rattle.rpds_table.proofs.Ordered.{transition_keeps, run_keeps}
use Rattle.rpds_table.proofs.table.laws.transition_is_lawful.Goals as goal

pub returns-clause-step : goal.returns-clause-step
returns-clause-step g c t t' command reply all step =
    transition_keeps (compared g.K.PartialEq.eq g.K.Ord.cmp) (key_hash g.H.BuildHasher g.H.Hasher.Hasher g.K.Hash.hash_input) t t' command reply all step

pub returns-clause-run : goal.returns-clause-run
returns-clause-run g c t t' commands replies all run =
    run_keeps (compared g.K.PartialEq.eq g.K.Ord.cmp) (key_hash g.H.BuildHasher g.H.Hasher.Hasher g.K.Hash.hash_input) t t' commands replies all run
