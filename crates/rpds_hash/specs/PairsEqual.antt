-- Equality of two maps, seen as lists of pairs.
use Rattle.std.specs.Prelude.{ℕ, Bool, List}
use Rattle.std.specs.Cmp.{IsEquivalence, IsPartialEquivalence, equiv, partial_equiv_from_equiv}
use Rattle.std.specs.HashMap.{HashMap, hash_map_eq}
use Rattle.std_collections.specs.Layout.HashMap.{hash_map}
use Rattle.std_collections.specs.HashMap.Eq.{hash_map_eq_symm, hash_map_eq_trans, hash_map_eq_refl}

-- the map with these pairs
abbrev pub as_map : {K X : Type 0} → List (K × X) → HashMap K X ℕ
as_map es = hash_map es 0 0

module _ {K X : Type 0} (eq : K → K → Bool) (E : X → X → Bool) where
  -- at each key of either list, both have a pair, and the values are equal
  abbrev pub pairs_equal : List (K × X) → List (K × X) → Bool
  pairs_equal es fs = hash_map_eq eq E (as_map es) (as_map fs)

  pub pairs_per : IsEquivalence eq → IsPartialEquivalence E → IsPartialEquivalence pairs_equal
  pairs_per k v = record {
    symm = λ es fs. hash_map_eq_symm eq E v.symm (as_map es) (as_map fs);
    trans = λ es fs gs. hash_map_eq_trans eq E k v.trans (as_map es) (as_map fs) (as_map gs);
  }

  pub pairs_equiv : IsEquivalence eq → IsEquivalence E → IsEquivalence pairs_equal
  pairs_equiv k v = equiv (pairs_per k (partial_equiv_from_equiv v)) (λ es. hash_map_eq_refl eq E v.refl (as_map es))
