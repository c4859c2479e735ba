-- How a kind is written.
use Rattle.std.specs.Prelude.{ℕ, List, codes}
use Rattle.rpds_table.specs.declared.table.kind.Kind.{Kind}
use Rattle.rpds_table.specs.declared.table.kind.Kind.TheVariants as kinds
use Rattle.rpds_lines.specs.Grammar.Pieces.{Piece, word}

abbrev pub word_of_kind : Kind → List ℕ
word_of_kind kinds.List = codes "list"
word_of_kind kinds.Stack = codes "stack"
word_of_kind kinds.Queue = codes "queue"
word_of_kind kinds.Vector = codes "vector"
word_of_kind kinds.HashTrieMap = codes "hmap"
word_of_kind kinds.HashTrieSet = codes "hset"
word_of_kind kinds.RedBlackTreeMap = codes "rmap"
word_of_kind kinds.RedBlackTreeSet = codes "rset"

abbrev pub piece_of_kind : Kind → Piece
piece_of_kind kind = word (word_of_kind kind)
