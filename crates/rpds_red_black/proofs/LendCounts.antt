-- The counts of a descent that lends.
use Rattle.rpds_red_black.proofs.Words.{◌≡◌, ℕ, ◌+◌, ◌<◌, arith, IsWithin, Steps, within_compared, within_made, within_more, within_then}

module _ {a b c : Steps} (made : b ≡ record a { made = a.made + 1 }) (compared : c ≡ record b { compared = b.compared + 1 }) where
  -- the counts of the level where the key is
  pub within_here : {below here : ℕ} → below < here → IsWithin here here a c
  within_here h = within_more (within_then (within_made made) (within_compared compared)) (omega (arith, h)) (omega (arith, h))

  -- the counts of one level, over those of the level below
  pub within_level : {d : Steps} {below here : ℕ} → IsWithin below below c d → below < here → IsWithin here here a d
  within_level rest h = within_more (within_then (within_here {below = 0} {here = 1} (omega arith)) rest) (omega (arith, h)) (omega (arith, h))
