-- The types that tables speak in, and their variants. Those of an edit, a kind, an op and a version are named by their modules.
pub use Rattle.rpds_table.specs.declared.table.command.Command.{Command}
pub use Rattle.rpds_table.specs.declared.table.command.Command.TheVariants.{Make, MakeBits, MakeDegree, MakeSorted, MakeSortedItems, Copy, Change, Extend, WriteAt, WriteKey}
pub use Rattle.rpds_table.specs.declared.table.edit.Edit.{Edit}
pub use Rattle.rpds_table.specs.declared.table.kind.Kind.{Kind}
pub use Rattle.rpds_table.specs.declared.table.mode.Mode.{Mode}
pub use Rattle.rpds_table.specs.declared.table.mode.Mode.TheVariants.{New, InPlace}
pub use Rattle.rpds_table.specs.declared.table.op.Op.{Op}
pub use Rattle.rpds_table.specs.declared.table.outcome.Outcome.{Outcome}
pub use Rattle.rpds_table.specs.declared.table.outcome.Outcome.TheVariants.{Unfit, Nothing, Absent, Becomes}
pub use Rattle.rpds_table.specs.declared.table.question.Question.{Question}
pub use Rattle.rpds_table.specs.declared.table.refusal.Refusal.{Refusal}
pub use Rattle.rpds_table.specs.declared.table.refusal.Refusal.TheVariants.{NoVersion, WrongKind, BadBits, BadDegree, BadRange, Full, NoMemory, NotAscending}
pub use Rattle.rpds_table.specs.declared.table.reply.Reply.{Reply}
pub use Rattle.rpds_table.specs.declared.table.reply.Reply.TheVariants.{Made, Done, Refused}
pub use Rattle.rpds_table.specs.declared.table.version.Version.{Version}
