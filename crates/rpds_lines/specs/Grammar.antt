-- How a request is written: the pieces of its line.
pub mod Commands
pub mod Items
pub mod Kinds
pub mod Ops
pub mod Pieces
pub mod Questions
pub mod Snaps
use Rattle.std.specs.Prelude.{ℕ, List, [], ◌∷◌, Option, codes}
use Rattle.rpds_lines.specs.Grammar.Commands.{pieces_of_command}
use Rattle.rpds_lines.specs.Grammar.Pieces.{Piece, word, number, AreRead}
use Rattle.rpds_lines.specs.Grammar.Questions.{pieces_of_question}
use Rattle.rpds_lines.specs.Grammar.Snaps.{pieces_of_snap}
use Rattle.rpds_lines.specs.Words.{words_of}
use Rattle.rpds_lines.specs.declared.parse.Request.{Request}
use Rattle.rpds_lines.specs.declared.parse.Request.TheVariants.{Command, Question, Show, Snap}

abbrev pub pieces_of_request : {A : Type 0} → Request A → List Piece
pieces_of_request (Command command) = pieces_of_command command
pieces_of_request (Question question) = pieces_of_question question
pieces_of_request (Show i) = word (codes "show") ∷ number i ∷ []
pieces_of_request (Snap request) = word (codes "snap") ∷ pieces_of_snap request

-- The line is written as this request; None is for a line that no request is written as. Numbers are those that fit.
abbrev pub IsRequestOf : {A : Type 0} → List ℕ → Option (Request A) → Type 0
IsRequestOf line request = AreRead pieces_of_request (words_of line) request
