-- How an op is written.
use Rattle.std.specs.Prelude.{ℕ, List, [], ◌∷◌, codes}
use Rattle.rpds_table.specs.declared.table.op.Op.{Op}
use Rattle.rpds_table.specs.declared.table.op.Op.TheVariants as ops
use Rattle.rpds_lines.specs.Grammar.Pieces.{Piece, word, number}

abbrev pub pieces_of_op : Op ℕ ℕ → List Piece
pieces_of_op (ops.PushFront value) = word (codes "pushfront") ∷ number value ∷ []
pieces_of_op ops.DropFirst = word (codes "dropfirst") ∷ []
pieces_of_op ops.Reverse = word (codes "reverse") ∷ []
pieces_of_op (ops.Push value) = word (codes "push") ∷ number value ∷ []
pieces_of_op ops.Pop = word (codes "pop") ∷ []
pieces_of_op (ops.Enqueue value) = word (codes "enqueue") ∷ number value ∷ []
pieces_of_op ops.Dequeue = word (codes "dequeue") ∷ []
pieces_of_op (ops.PushBack value) = word (codes "pushback") ∷ number value ∷ []
pieces_of_op ops.DropLast = word (codes "droplast") ∷ []
pieces_of_op (ops.Set p value) = word (codes "set") ∷ number p ∷ number value ∷ []
pieces_of_op (ops.Insert key value) = word (codes "insert") ∷ number key ∷ number value ∷ []
pieces_of_op (ops.Remove key) = word (codes "remove") ∷ number key ∷ []
pieces_of_op (ops.InsertItem key) = word (codes "insertitem") ∷ number key ∷ []
pieces_of_op (ops.RemoveItem key) = word (codes "removeitem") ∷ number key ∷ []
