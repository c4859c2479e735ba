use Rattle.std.proofs.Common.{sym, subst}
use Rattle.rpds_serde.specs.Reading.{Anything, ReadsSeq}
use Rattle.rpds_serde.proofs.Collected.{made_of}
use Rattle.rpds_serde.proofs.sequence.deserialize.Goals as goal

pub returns : goal.returns
returns g c = made_of c.read_sequence.result (λ items made reads same. subst (λ xs. ReadsSeq g.F.Format.gives g.F.Format.stays Anything c.args.from.now xs c.read_sequence.new.from) (sym same) reads) c.read_sequence.ensures
