-- What a sequence ends as, once a reference to one of its items has ended.
use Rattle.std.specs.Prelude.{ℕ, List, Result, set}
use Rattle.std.specs.Borrow.{Fml, RattleType, MutBor, LendsIfOk}
use Rattle.std.specs.declared.alloc.Allocator.{Ghosts}
use Rattle.rpds_sequence.specs.contracts.sequence.Sequence.{the_row}

-- the sequence has at the index the last item written through r, and is as it was where there is no reference
abbrev pub lends_item : (T A : RattleType) → Ghosts A.Denot → MutBor (List T.Denot) → ℕ → {E : Type 0} → Result (MutBor T.Denot) E → Fml
lends_item T A alloc s index r = LendsIfOk (the_row T A alloc) T s r (λ x. set s.now index x) s.now
