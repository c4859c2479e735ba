-- How a command is written.
use Rattle.std.specs.Prelude.{◌≡◌, ◌≢◌, ◌⊎◌, ℕ, List, [], ◌∷◌, codes}
use Rattle.std.specs.List.{flat_map}
use Rattle.rpds_table.specs.declared.table.mode.Mode.{Mode}
use Rattle.rpds_table.specs.declared.table.mode.Mode.TheVariants.{New, InPlace}
use Rattle.rpds_table.specs.declared.table.command.Command.{Command}
use Rattle.rpds_table.specs.declared.table.command.Command.TheVariants.{Make, MakeBits, MakeDegree, MakeSorted, MakeSortedItems, Copy, Change, Extend, WriteAt, WriteKey}
use Rattle.rpds_lines.specs.Grammar.Items.{pieces_of_number, pieces_of_pair, AreNumbers, ArePairs}
use Rattle.rpds_lines.specs.Grammar.Kinds.{piece_of_kind}
use Rattle.rpds_lines.specs.Grammar.Ops.{pieces_of_op}
use Rattle.rpds_lines.specs.Grammar.Pieces.{Piece, word, number, byte, text_of, Fits}

abbrev pub word_of_mode : Mode → List ℕ
word_of_mode New = codes "new"
word_of_mode InPlace = codes "in"

abbrev pub pieces_of_command : {A : Type 0} → Command ℕ ℕ A → List Piece
pieces_of_command (Make kind) = word (codes "make") ∷ piece_of_kind kind ∷ []
pieces_of_command (MakeBits bits) = word (codes "bits") ∷ byte bits ∷ []
pieces_of_command (MakeDegree kind degree) = word (codes "degree") ∷ piece_of_kind kind ∷ byte degree ∷ []
pieces_of_command (MakeSorted pairs) = word (codes "sorted") ∷ word (codes "rmap") ∷ flat_map pieces_of_pair pairs.items
pieces_of_command (MakeSortedItems items) = word (codes "sorted") ∷ word (codes "rset") ∷ flat_map pieces_of_number items.items
pieces_of_command (Copy i) = word (codes "copy") ∷ number i ∷ []
pieces_of_command (Change i mode op) = word (word_of_mode mode) ∷ number i ∷ pieces_of_op op
pieces_of_command (Extend i items) = word (codes "extend") ∷ number i ∷ flat_map pieces_of_number items.items
pieces_of_command (WriteAt i p value) = word (codes "writeat") ∷ number i ∷ number p ∷ number value ∷ []
pieces_of_command (WriteKey i key value) = word (codes "writekey") ∷ number i ∷ number key ∷ number value ∷ []

-- No line of this first word has items to its end.
abbrev pub LacksItems : List ℕ → Type 0
LacksItems first = (first ≢ codes "extend") × (first ≢ codes "sorted")

-- The words are those of an extension by one item at least.
abbrev pub AreExtension : List (List ℕ) → Type 0
AreExtension words =
    (i : ℕ) × (items : List (List ℕ)) × Fits (number i) × AreNumbers items × (items ≢ []) × (words ≡ codes "extend" ∷ text_of (number i) ∷ items)

-- The words are those of a sorted list of one pair or member at least.
abbrev pub AreSorted : List (List ℕ) → Type 0
AreSorted words =
    (items : List (List ℕ)) × (items ≢ [])
    × ((ArePairs items × (words ≡ codes "sorted" ∷ codes "rmap" ∷ items)) ⊎ (AreNumbers items × (words ≡ codes "sorted" ∷ codes "rset" ∷ items)))

-- The words are those of a command that has items to the end of its line, and has one at least.
abbrev pub HaveItems : List (List ℕ) → Type 0
HaveItems words = AreExtension words ⊎ AreSorted words
