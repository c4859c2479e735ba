use Rattle.std.proofs.Common.{sym, subst}
use Rattle.rpds_serde.specs.Reading.{Anything, ReadsSeq}
use Rattle.rpds_serde.proofs.Collected.{made_of}
use Rattle.rpds_serde.proofs.queue.deserialize.Goals as goal

pub returns-clause-items : goal.returns-clause-items
returns-clause-items g c = made_of c.read_sequence.result (λ items made reads gives. subst (λ xs. ReadsSeq g.F.Format.gives g.F.Format.stays Anything c.args.from.now xs c.read_sequence.new.from) (sym gives.0) reads) c.read_sequence.ensures

pub returns-clause-waiting : goal.returns-clause-waiting
returns-clause-waiting g c = made_of c.read_sequence.result (λ items made reads gives. gives.1) c.read_sequence.ensures
