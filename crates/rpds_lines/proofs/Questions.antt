-- A version's number follows each question's first word.
use Rattle.std.proofs.Common.{◌≢◌, ℕ, List, [], ◌∷◌, decimal, ap}
use Rattle.rpds_table.specs.Asked.{versions_of}
use Rattle.rpds_table.specs.declared.table.question.Question.{Question}
use Rattle.rpds_table.specs.declared.table.question.Question.TheVariants.{First}
use Rattle.rpds_lines.specs.Grammar.Pieces.{number, texts_of, Fits, AllFit}
use Rattle.rpds_lines.specs.Grammar.Questions.{pieces_of_question}

abbrev behind : List (List ℕ) → List (List ℕ)
behind [] = []
behind (word ∷ words) = words

-- Where no number follows it, no question is written so.
pub lacks_index : (first : List ℕ) (words : List (List ℕ)) → ((i : ℕ) (rest : List (List ℕ)) → Fits (number i) → words ≢ decimal i ∷ rest)
    → (question : Question ℕ) → AllFit (pieces_of_question question) → first ∷ words ≢ texts_of (pieces_of_question question)
lacks_index first words none (First i) fit is = none i _ fit.1.0 (ap behind is)
lacks_index first words none question fit is = none (versions_of question).0 _ fit.1.0 (ap behind is)
