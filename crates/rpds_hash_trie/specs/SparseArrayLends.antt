-- What a sparse array ends as, once a reference to one of its items has ended.
use Rattle.std.specs.Prelude.{ℕ, List, Option}
use Rattle.std.specs.Borrow.{Fml, RattleType, MutBor, LendsIf}
use Rattle.std.specs.declared.alloc.Allocator.{Ghosts}
use Rattle.rpds_hash_trie.specs.contracts.sparse_array_usize.SparseArrayUsize.{the_row}
use Rattle.rpds_hash_trie.specs.Places.{put_at}

-- the place has the last item written through r, and all is as it was where there is none
abbrev pub lends_item : (T A : RattleType) → Ghosts A.Denot → MutBor (List (ℕ × T.Denot)) → ℕ → Option (MutBor T.Denot) → Fml
lends_item T A alloc a place r = LendsIf (the_row T A alloc) T a r (λ x. put_at place x a.now) a.now
