-- The levels of an ordered map, computed.
use Rattle.std.proofs.Common.{◌≡◌, ℕ, ◌+◌, ◌≤◌, [], length, refl, ap, ◌∙◌, arith}
use Rattle.rpds_core.specs.declared.steps.Steps.{Steps}
use Rattle.tests_ordered.specs.Compared.{ComparesAmong, ComparesRows}
use Rattle.rpds_tree.specs.Logarithm.{floor_log2, most_levels}
use Rattle.rpds_tree.specs.OrderedMap.{OrderedMap}

module _ {K V : Type 0} (m : OrderedMap K V) (old new : Steps) where
  among : (pairs keys : ℕ) → new.compared ≤ old.compared + most_levels (length m.entries) → most_levels pairs ≡ keys → ComparesAmong m old new pairs keys
  among pairs keys most e = λ same. (let levels = ap most_levels same ∙ e in omega (arith, most, levels))

  pub compares_rows : new.compared ≤ old.compared + most_levels (length m.entries) → (m.entries ≡ [] → new ≡ old) → ComparesRows m old new
  unfolding floor_log2
  compares_rows most none = (
    among 1000 18 most refl,
    among 500 16 most refl,
    among 7 6 most refl,
    among 1 2 most refl,
    none,
  )

no_levels : most_levels 0 ≡ 0
unfolding floor_log2
no_levels = refl

-- a look-up in a map without pairs compares nothing
pub none_compared : (old new : Steps) (levels : ℕ) → levels ≡ most_levels 0 → new.compared ≤ old.compared + levels → old.compared ≤ new.compared → new ≡ record old { compared = new.compared } → new ≡ old
none_compared old new levels none most least others =
    let same : new.compared ≡ old.compared = omega (arith, none, no_levels, most, least) in
    others ∙ ap (λ k. record old { compared = k }) same
