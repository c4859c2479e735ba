-- Positions in the order of the keys.
use Rattle.std.specs.Prelude.{ℕ, List, filter, length}
use Rattle.std.specs.declared.cmp.Ordering.{Ordering}
use Rattle.std.specs.Ordering.{is_lt}

-- how many keys are below s, by how a key compares to it: s is a key, or what a key's form is seen as
abbrev pub rank : {S K V : Type 0} → (K → S → Ordering) → S → List (K × V) → ℕ
rank R s es = length (filter (λ p. is_lt (R p.0 s)) es)

-- how many members are
abbrev pub rank_member : {S T : Type 0} → (T → S → Ordering) → S → List T → ℕ
rank_member R s ms = length (filter (λ m. is_lt (R m s)) ms)
