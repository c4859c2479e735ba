-- Numbers and pairs of numbers to the end of a line.
use Rattle.std.specs.Prelude.{◌≡◌, ℕ, List, [], ◌∷◌}
use Rattle.std.specs.List.{flat_map}
use Rattle.rpds_lines.specs.Grammar.Pieces.{Piece, number, texts_of, AllFit}

abbrev pub pieces_of_number : ℕ → List Piece
pieces_of_number n = number n ∷ []

abbrev pub pieces_of_pair : ℕ × ℕ → List Piece
pieces_of_pair p = number p.0 ∷ number p.1 ∷ []

-- the words write items that fit
abbrev pub AreItems : {X : Type 0} → (X → List Piece) → List (List ℕ) → Type 0
AreItems {X} pieces_of words = (items : List X) × AllFit (flat_map pieces_of items) × (words ≡ texts_of (flat_map pieces_of items))

abbrev pub AreNumbers : List (List ℕ) → Type 0
AreNumbers words = AreItems pieces_of_number words

abbrev pub ArePairs : List (List ℕ) → Type 0
ArePairs words = AreItems pieces_of_pair words
