-- The lines of bytes.
use Rattle.std.specs.Prelude.{◌≢◌, ◌==◌, ℕ, List, [], ◌∷◌, ◌++◌, All, if◌then◌else◌}
use Rattle.std.specs.List.{flat_map, onto_first}

-- no byte is a line feed
abbrev pub LacksLineFeed : List ℕ → Type 0
LacksLineFeed bytes = All (λ byte. byte ≢ 10) bytes

-- the lines, each with a line feed after it
abbrev pub ended : List (List ℕ) → List ℕ
ended lines = flat_map (λ line. line ++ 10 ∷ []) lines

-- what stands before each line feed, and what follows the last one, unless nothing does
abbrev pub lines_of : List ℕ → List (List ℕ)
lines_of [] = []
lines_of (byte ∷ bytes) = if byte == 10 then [] ∷ lines_of bytes else onto_first byte (lines_of bytes)
