-- What the contracts of `SparseArrayUsize` cite: the places that a bitmap has, and the items at them.
use Rattle.std.specs.Prelude.{◌≡◌, ℕ, zero, suc, ◌+◌, ◌/◌, ◌%◌, ◌<◌, if◌then◌else◌, ◌==◌, nat_lt, List, [], ◌∷◌, Some, None, map, zip}
use Rattle.std.specs.List.{AllZip}
use Rattle.std.specs.declared.option.Option.{Option}
use Rattle.std.specs.Int.Count.{ones_in}
use Rattle.std.specs.declared.rc.Rc.{Rc}
use Rattle.std.proofs.Common.{refl, ap, ◌∙◌, length, arith}
pub use Rattle.rpds_core.specs.Rows.{behind}

-- the place at, before rest, if the bit is set
abbrev pub on_bit : ℕ → ℕ → List ℕ → List ℕ
on_bit zero at rest = rest
on_bit (suc _) at rest = at ∷ rest

-- the places of the n lowest bits of b that are set, counted from at
unfoldable pub places : ℕ → ℕ → ℕ → List ℕ
places zero at b = []
places (suc n) at b = on_bit (b % 2) at (places n (suc at) (b / 2))

-- the items, each with its place
unfoldable pub placed : {T : Type 0} → ℕ → List T → List (ℕ × T)
placed b xs = zip (places 64 0 b) xs

-- the item at the place p
abbrev pub item_at : {T : Type 0} → ℕ → List (ℕ × T) → Option T
item_at p [] = None
item_at p (q ∷ qs) = if p == q.0 then Some q.1 else item_at p qs

-- with x at the place p
abbrev pub put_at : {T : Type 0} → ℕ → T → List (ℕ × T) → List (ℕ × T)
put_at p x [] = (p, x) ∷ []
put_at p x (q ∷ qs) = if nat_lt p q.0 then (p, x) ∷ q ∷ qs else (if p == q.0 then (p, x) ∷ qs else q ∷ put_at p x qs)

-- without the item at the place p
abbrev pub without_at : {T : Type 0} → ℕ → List (ℕ × T) → List (ℕ × T)
without_at p [] = []
without_at p (q ∷ qs) = if p == q.0 then qs else q ∷ without_at p qs

-- the item at the lowest place
abbrev pub first_item : {T : Type 0} → List (ℕ × T) → Option T
first_item [] = None
first_item (q ∷ qs) = Some q.1

-- the item at the highest place
abbrev pub last_item : {T : Type 0} → List (ℕ × T) → Option T
last_item [] = None
last_item (q ∷ []) = Some q.1
last_item (q ∷ r ∷ qs) = last_item (r ∷ qs)

-- the items in the order of their places
abbrev pub items_of : {T : Type 0} → List (ℕ × T) → List T
items_of [] = []
items_of (q ∷ qs) = q.1 ∷ items_of qs

-- the places of the items
abbrev pub places_of : {T : Type 0} → List (ℕ × T) → List ℕ
places_of = map (λ q. q.0)

-- what the pointers point to, with their places
abbrev pub seen : {X A : Type 0} → List (ℕ × Rc X A) → List (ℕ × X)
seen [] = []
seen (c ∷ cs) = (c.0, c.1.value) ∷ seen cs

-- the same places, with clones of the items
abbrev pub AreClones : {T : Type 0} → (T → T → Type 0) → List (ℕ × T) → List (ℕ × T) → Type 0
AreClones C = AllZip (λ p q. (q.0 ≡ p.0) × C p.1 q.1)

length_on_bit : (d at : ℕ) (ps : List ℕ) → d < 2 → length (on_bit d at ps) ≡ d + length ps
length_on_bit zero at ps h = omega arith
length_on_bit (suc zero) at ps h = omega arith
length_on_bit (suc (suc d)) at ps h = absurd (omega arith)

pub length_places : (n at b : ℕ) → length (places n at b) ≡ ones_in n b
unfolding places ones_in
length_places zero at b = refl
length_places (suc n) at b = let m : b % 2 < 2 = omega arith in length_on_bit (b % 2) at (places n (suc at) (b / 2)) m ∙ ap (λ r. b % 2 + r) (length_places n (suc at) (b / 2))
