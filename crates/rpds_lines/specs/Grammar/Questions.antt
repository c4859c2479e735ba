-- How a question is written.
use Rattle.std.specs.Prelude.{ℕ, List, [], ◌∷◌, codes}
use Rattle.rpds_table.specs.declared.table.question.Question.{Question}
use Rattle.rpds_table.specs.declared.table.question.Question.TheVariants as questions
use Rattle.rpds_lines.specs.Grammar.Pieces.{Piece, word, number, bound}

abbrev pub pieces_of_question : Question ℕ → List Piece
pieces_of_question (questions.First i) = word (codes "first") ∷ number i ∷ []
pieces_of_question (questions.Last i) = word (codes "last") ∷ number i ∷ []
pieces_of_question (questions.At i p) = word (codes "at") ∷ number i ∷ number p ∷ []
pieces_of_question (questions.Key i key) = word (codes "key") ∷ number i ∷ number key ∷ []
pieces_of_question (questions.Size i) = word (codes "size") ∷ number i ∷ []
pieces_of_question (questions.Contains i key) = word (codes "has") ∷ number i ∷ number key ∷ []
pieces_of_question (questions.Range i start end) = word (codes "range") ∷ number i ∷ bound start ∷ bound end ∷ []
pieces_of_question (questions.Equal i j) = word (codes "equal") ∷ number i ∷ number j ∷ []
pieces_of_question (questions.Compare i j) = word (codes "compare") ∷ number i ∷ number j ∷ []
pieces_of_question (questions.Disjoint i j) = word (codes "disjoint") ∷ number i ∷ number j ∷ []
pieces_of_question (questions.Subset i j) = word (codes "subset") ∷ number i ∷ number j ∷ []
