-- The pieces of a line. Each is written as one word.
use Rattle.std.specs.Prelude.{◌≡◌, ◌≢◌, ◌^◌, ◌<◌, ℕ, List, [], ◌∷◌, ◌++◌, map, Option, MatchOption, codes, decimal}
use Rattle.std.specs.List.{AllByRecursion}
use Rattle.std.specs.declared.ops.Bound.{Bound}
use Rattle.std.specs.declared.ops.Bound.TheVariants.{Included, Excluded, Unbounded}

-- what one word of a line writes
pub data Piece : Type 0 where
  -- the word itself
  word : List ℕ → Piece
  -- a number of at most 64 bits
  number : ℕ → Piece
  -- a number of at most 8 bits
  byte : ℕ → Piece
  -- a bound of a range
  bound : Bound ℕ → Piece

abbrev pub text_of : Piece → List ℕ
text_of (word text) = text
text_of (number n) = decimal n
text_of (byte n) = decimal n
text_of (bound (Included key)) = codes "[" ++ decimal key
text_of (bound (Excluded key)) = codes "(" ++ decimal key
text_of (bound Unbounded) = codes "*"

-- its number, if it has one, is one that the program can hold
abbrev pub Fits : Piece → Type 0
Fits (word text) = Unit {0}
Fits (number n) = n < 2 ^ 64
Fits (byte n) = n < 2 ^ 8
Fits (bound (Included key)) = key < 2 ^ 64
Fits (bound (Excluded key)) = key < 2 ^ 64
Fits (bound Unbounded) = Unit {0}

abbrev pub texts_of : List Piece → List (List ℕ)
texts_of pieces = map text_of pieces

abbrev pub AllFit : List Piece → Type 0
AllFit pieces = AllByRecursion Fits pieces

module _ {X : Type 0} where
  -- The text is that of the fitting value that was read; where none was, no fitting value has this text.
  abbrev pub IsReadAs : {Text : Type 0} → (X → Type 0) → (X → Text) → Text → Option X → Type 0
  IsReadAs fits written text read = MatchOption read ((x : X) → fits x → text ≢ written x) (λ x. fits x × (text ≡ written x))

  -- of one word
  abbrev pub IsRead : (X → Piece) → List ℕ → Option X → Type 0
  IsRead piece_of text read = IsReadAs (λ x. Fits (piece_of x)) (λ x. text_of (piece_of x)) text read

  -- of some words, which are one word
  abbrev pub IsReadAlone : (X → Piece) → List (List ℕ) → Option X → Type 0
  IsReadAlone piece_of words read = IsReadAs (λ x. Fits (piece_of x)) (λ x. text_of (piece_of x) ∷ []) words read

  -- of some words, of which each writes a piece
  abbrev pub AreRead : (X → List Piece) → List (List ℕ) → Option X → Type 0
  AreRead pieces_of words read = IsReadAs (λ x. AllFit (pieces_of x)) (λ x. texts_of (pieces_of x)) words read

  -- of the first of some words, of which the others are left
  abbrev pub IsReadFirst : (X → Piece) → List (List ℕ) → List (List ℕ) → Option X → Type 0
  IsReadFirst piece_of words left read =
      MatchOption read
      ((x : X) (rest : List (List ℕ)) → Fits (piece_of x) → words ≢ text_of (piece_of x) ∷ rest)
      (λ x. Fits (piece_of x) × (words ≡ text_of (piece_of x) ∷ left))

  -- of the first ones of some words
  abbrev pub AreReadFirst : (X → List Piece) → List (List ℕ) → List (List ℕ) → Option X → Type 0
  AreReadFirst pieces_of words left read =
      MatchOption read
      ((x : X) (rest : List (List ℕ)) → AllFit (pieces_of x) → words ≢ texts_of (pieces_of x) ++ rest)
      (λ x. AllFit (pieces_of x) × (words ≡ texts_of (pieces_of x) ++ left))
