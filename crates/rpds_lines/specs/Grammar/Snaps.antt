-- How a request of the map with snapshots is written behind the word `snap`.
use Rattle.std.specs.Prelude.{List, [], ◌∷◌, codes}
use Rattle.rpds_snapshots.specs.declared.snapshots.command.SnapCommand.TheVariants.{Put, TakeOut, Take, GoBack}
use Rattle.rpds_lines.specs.Grammar.Pieces.{Piece, word, number}
use Rattle.rpds_lines.specs.declared.parse.snap.SnapRequest.{SnapRequest}
use Rattle.rpds_lines.specs.declared.parse.snap.SnapRequest.TheVariants.{Command, Get, Show, At}

abbrev pub pieces_of_snap : SnapRequest → List Piece
pieces_of_snap (Command (Put key value)) = word (codes "put") ∷ number key ∷ number value ∷ []
pieces_of_snap (Command (TakeOut key)) = word (codes "out") ∷ number key ∷ []
pieces_of_snap (Command Take) = word (codes "take") ∷ []
pieces_of_snap (Command (GoBack n)) = word (codes "back") ∷ number n ∷ []
pieces_of_snap (Get key) = word (codes "get") ∷ number key ∷ []
pieces_of_snap Show = word (codes "show") ∷ []
pieces_of_snap (At n) = word (codes "at") ∷ number n ∷ []
