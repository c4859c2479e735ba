-- What a walk has still to give.
use Rattle.std.specs.Prelude.{ℕ, ◌<◌, ◌≤◌, List, [], ◌∷◌, ◌++◌, length}
use Rattle.std.specs.Borrow.{Bor}
use Rattle.std.specs.declared.rc.Rc.{Rc}
use Rattle.rpds_hash_trie.specs.Places.{behind}
use Rattle.rpds_hash_trie.specs.HashTrie.{Stored, Trie}
use Rattle.rpds_core.specs.WalkStack.{HasRoom}

module _ {K V : Type 0} where
  -- the entries of a row of nodes
  abbrev pub flatten : List (Trie K V) → List (Stored K V)
  flatten [] = []
  flatten (k ∷ ks) = k.entries ++ flatten ks

  -- each node's depth is at or above the place, and within the last
  abbrev pub AllFit : ℕ → List (Trie K V) → Type 0
  AllFit place [] = Unit {0}
  AllFit place (k ∷ ks) = ((place ≤ k.depth) × (k.depth ≤ 64)) × AllFit place ks

module _ {K V A : Type 0} where
  -- what a row of nodes has to give
  abbrev pub given : Bor (List (Rc (Trie K V) A)) → List (Stored K V)
  given row = flatten (behind row.now)

  -- a row of some nodes, which fit at the place
  abbrev pub Fits : ℕ → Bor (List (Rc (Trie K V) A)) → Type 0
  Fits place row = (0 < length row.now) × AllFit place (behind row.now)

  -- there are places for the row that comes next, above the rows on the stack
  pub record HasPlaces (row : Bor (List (Rc (Trie K V) A))) (stack : List (Bor (List (Rc (Trie K V) A)))) : Type 0 where
    pub room : HasRoom Fits stack
    pub fits : AllFit (length stack) (behind row.now)
