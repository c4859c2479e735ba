-- What a table replies to a command, by what came of it.
use Rattle.std.specs.Prelude.{true, false, Result, Ok, Err}
use Rattle.rpds_table.specs.Types.{Outcome, Refusal, WrongKind, Full, Reply, Done, Refused}
use Rattle.rpds_table.specs.declared.table.outcome.Outcome.TheVariants as outcome

-- the reply to a change in place, or to one into a new version that makes none
abbrev pub reply_to : {T : Type 0} → Outcome T → Reply
reply_to outcome.Unfit = Refused WrongKind
reply_to outcome.Full = Refused Full
reply_to outcome.Nothing = Done false
reply_to outcome.Absent = Done false
reply_to (outcome.Becomes x) = Done true

-- the reply to a command that was done or refused
abbrev pub reply_of : Result Reply Refusal → Reply
reply_of (Ok reply) = reply
reply_of (Err refusal) = Refused refusal
