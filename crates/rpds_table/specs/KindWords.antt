-- The words in which each kind says what it does.
pub use Rattle.rpds_core.specs.declared.steps.Steps.{Steps}
pub use Rattle.rpds_table.specs.Answers.{AnswerValue, item, pair, member, pairs, members}
pub use Rattle.rpds_table.specs.Asked.{of_items, of_both_ends, of_entries, of_ascending, of_equal, of_ordered, of_two_sequences, of_two_sets, LooksUp}
pub use Rattle.rpds_table.specs.Budgets.{Budget, budget, no_budget, one_unless_empty}
pub use Rattle.rpds_table.specs.Compared.{Compared}
pub use Rattle.rpds_table.specs.Types.{Edit, Op, Outcome, Unfit, Becomes, Question}
pub use Rattle.rpds_table.specs.LookUps.{IsHashedLookUp, IsOrderedLookUp}
pub use Rattle.rpds_table.specs.Outcomes.{if_found, if_in_range, if_room, unless_empty}
pub use Rattle.rpds_table.specs.Behaviours.{Behaviour, plain, of_ops}
pub use Rattle.rpds_table.specs.declared.table.edit.Edit.TheVariants.{Change, Extend, WriteAt, WriteKey}
