-- A list as a version.
use Rattle.std.specs.Prelude.{◌≡◌, ◌+◌, List, ◌∷◌, length, drop, reverse}
use Rattle.std.specs.Fmt.{debug_list}
use Rattle.rpds_table.specs.KindWords.{of_both_ends, of_two_sequences, if_room, unless_empty, Behaviour, plain, Op, Outcome, Unfit, Becomes}
use Rattle.rpds_table.specs.declared.table.op.Op.TheVariants as ops

abbrev pub outcome_of_op : {K V : Type 0} → List V → Op K V → Outcome (List V)
outcome_of_op xs (ops.PushFront x) = if_room (length xs + 1) (x ∷ xs)
outcome_of_op xs ops.DropFirst = unless_empty xs (drop 1 xs)
outcome_of_op xs ops.Reverse = Becomes (reverse xs)
outcome_of_op xs op = Unfit

abbrev pub behaviour : {K V H A : Type 0} → Behaviour K V H A (List V)
behaviour = plain (λ xs ys. xs ≡ ys) (λ keys. outcome_of_op) (λ keys. of_both_ends) (λ keys. of_two_sequences) (λ key_text. debug_list)
