-- A stack as a version: its items from the top.
use Rattle.std.specs.Prelude.{◌≡◌, ◌+◌, List, ◌∷◌, length, drop}
use Rattle.rpds_list.specs.StackText.{stack_text}
use Rattle.rpds_table.specs.KindWords.{of_items, of_two_sequences, if_room, unless_empty, Behaviour, plain, Op, Outcome, Unfit}
use Rattle.rpds_table.specs.declared.table.op.Op.TheVariants as ops

abbrev pub outcome_of_op : {K V : Type 0} → List V → Op K V → Outcome (List V)
outcome_of_op xs (ops.Push x) = if_room (length xs + 1) (x ∷ xs)
outcome_of_op xs ops.Pop = unless_empty xs (drop 1 xs)
outcome_of_op xs op = Unfit

abbrev pub behaviour : {K V H A : Type 0} → Behaviour K V H A (List V)
behaviour = plain (λ xs ys. xs ≡ ys) (λ keys. outcome_of_op) (λ keys. of_items) (λ keys. of_two_sequences) (λ key_text. stack_text)
