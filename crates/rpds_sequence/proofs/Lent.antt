-- A sequence that an item was lent from.
use Rattle.std.proofs.Common.{◌≡◌, ◌⊎◌, ℕ, zero, suc, List, [], ◌∷◌, refl, ap, arith, inl, inr}
use Rattle.std.specs.Map.{keys_of}
use Rattle.std.specs.Prelude.{set}
use Rattle.rpds_red_black.specs.Shape.{Shape}
use Rattle.rpds_red_black.specs.Values.{tree_with_key_at, with_key_at}
use Rattle.rpds_red_black.proofs.PlaceSides.{length_with_key}
use Rattle.rpds_sequence.specs.Contents.{IsSequence}

-- the items, one of them written anew
pub items_with : {T V : Type 0} (es : List (T × V)) (i : ℕ) (x : T) → keys_of (with_key_at es i x) ≡ set (keys_of es) i x
items_with [] i x = refl
items_with (e ∷ es) zero x = refl
items_with (e ∷ es) (suc i) x = ap (λ z. e.0 ∷ z) (items_with es i x)

pub sequence_again : {T : Type 0} (s d : Shape T (Unit {0})) (i : ℕ) (x : T) (size : ℕ) → (d ≡ tree_with_key_at s i x) ⊎ (d ≡ s) → IsSequence s size → IsSequence d size
sequence_again s d i x size (inl e) h = rw e (grind (arith, length_with_key s.entries i x, h.count, h.shallow))
sequence_again s d i x size (inr e) h = rw e h
