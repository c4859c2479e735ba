-- The value of a key, or the key at a position, written anew.
use Rattle.std.specs.Prelude.{◌≡◌, ◌<◌, ℕ, zero, suc, List, [], ◌∷◌, length}
use Rattle.std.specs.Map.{set_value}
use Rattle.std.specs.Ordering.{is_eq}
use Rattle.std.specs.declared.cmp.Ordering.{Ordering}
use Rattle.rpds_red_black.specs.Pairs.{IsAscending}
use Rattle.rpds_red_black.specs.Shape.{Shape}
use Rattle.rpds_red_black.specs.declared.seek.At.{At}

module _ {K V : Type 0} (q : K → Ordering) where
  -- the pairs with v as the value of the one that is looked for, by how that compares to keys; the stored key stays
  abbrev pub with_value_by : List (K × V) → V → List (K × V)
  with_value_by es v = set_value (λ j. is_eq (q j)) es v

  -- the tree with its pairs so, and all else as it was
  abbrev pub tree_with_value_by : Shape K V → V → Shape K V
  tree_with_value_by s v = record s { entries = with_value_by s.entries v }

-- the pairs with v as the value of the one whose key is equal to s: s is a key, or what a key's form is seen as
abbrev pub with_value : {S K V : Type 0} → (S → K → Ordering) → S → List (K × V) → V → List (K × V)
with_value R s es v = with_value_by (R s) es v

-- what a search that makes its path unique needs: the keys ascend, and clones equal their source
pub record IsReady {K V : Type 0} (R : K → K → Ordering) (key_clone : K → K → Type 0) (value_clone : V → V → Type 0) (s : Shape K V) : Type 0 where
  pub ascending : IsAscending R s.entries
  pub clone_keys : (x y : K) → key_clone x y → y ≡ x
  pub clone_values : (x y : V) → value_clone x y → y ≡ x

module _ {K V : Type 0} where
  -- the pairs with k as the key of the one at the position; its value stays
  abbrev pub with_key_at : List (K × V) → ℕ → K → List (K × V)
  with_key_at [] i k = []
  with_key_at (e ∷ es) zero k = (k, e.1) ∷ es
  with_key_at (e ∷ es) (suc i) k = e ∷ with_key_at es i k

  -- the tree with its pairs so, and all else as it was
  abbrev pub tree_with_key_at : Shape K V → ℕ → K → Shape K V
  tree_with_key_at s i k = record s { entries = with_key_at s.entries i k }

-- what a search by position that makes its path unique needs: the position lies in the tree, and clones equal their source
pub record IsPlaceIn {K V : Type 0} (key_clone : K → K → Type 0) (value_clone : V → V → Type 0) (s : Shape K V) (place : At) : Type 0 where
  pub size : place.size ≡ length s.entries
  pub there : place.position < length s.entries
  pub clone_keys : (x y : K) → key_clone x y → y ≡ x
  pub clone_values : (x y : V) → value_clone x y → y ≡ x
