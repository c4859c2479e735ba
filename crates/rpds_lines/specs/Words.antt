-- The words of a line.
use Rattle.std.specs.Prelude.{◌≢◌, ◌==◌, ℕ, List, [], All, Option, None, Some}
use Rattle.std.specs.List.{slice_split}
use Rattle.std.specs.Borrow.{Bor}

-- no byte is a space
abbrev pub LacksSpace : List ℕ → Type 0
LacksSpace bytes = All (λ byte. byte ≢ 32) bytes

-- the words of a line: what stands before, between and after its spaces
abbrev pub words_of : List ℕ → List (List ℕ)
words_of line = slice_split (λ b. b == 32) line

-- the words of what is left of a line
abbrev pub words_left : Option (Bor (List ℕ)) → List (List ℕ)
words_left None = []
words_left (Some rest) = words_of rest.now
