use Rattle.rpds_sequence.proofs.InsertLaws.{put_in, taken_out}
use Rattle.rpds_sequence.proofs.laws.insert_is_lawful.Goals as goal

pub returns-clause-removed : goal.returns-clause-removed
returns-clause-removed g c = taken_out

pub returns-clause-restored : goal.returns-clause-restored
returns-clause-restored g c = put_in
