-- The counts of a removal in place. On a tree of depth d it makes at most 4 d nodes.
use Rattle.rpds_red_black.proofs.Words.{◌≡◌, ℕ, ◌+◌, ◌≤◌, arith, IsWithin, Steps, within_made, within_more, within_then}

-- a node was made, and nothing more
pub made_one : {d n : ℕ} {a b : Steps} → b ≡ record a { made = a.made + 1 } → 1 ≤ n → IsWithin d n a b
made_one e h = within_more (within_made e) (omega arith) h

-- and then came the rest
pub made_first : {d m n : ℕ} {a b c : Steps} → b ≡ record a { made = a.made + 1 } → IsWithin d m b c → m + 1 ≤ n → IsWithin d n a c
made_first e q h = within_more (within_then (within_made e) q) (omega arith) (omega (arith, h))
