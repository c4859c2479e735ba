-- Counts of one call after another.
use Rattle.std.proofs.Common.{◌≡◌, ℕ, ◌+◌, ◌≤◌, refl, ap, ◌∙◌, arith}
use Rattle.rpds_core.specs.Counts.{IsWithin, IsMadeWithin}
use Rattle.rpds_core.specs.declared.steps.Steps.{Steps}

-- no work at all
pub within_same : (compared made : ℕ) (a : Steps) → IsWithin compared made a a
within_same compared made a =
    record { compared_least = omega arith; compared_most = omega arith; made_least = omega arith; made_most = omega arith; only = refl }

-- a wider bound
pub within_more : {compared made compared' made' : ℕ} {a b : Steps} → IsWithin compared made a b → compared ≤ compared' → made ≤ made' → IsWithin compared' made' a b
within_more h p q = record {
  compared_least = h.compared_least;
  compared_most = omega (arith, h.compared_most, p);
  made_least = h.made_least;
  made_most = omega (arith, h.made_most, q);
  only = h.only;
}

-- one after another
pub within_then : {compared made compared' made' : ℕ} {a b c : Steps} → IsWithin compared made a b → IsWithin compared' made' b c → IsWithin (compared + compared') (made + made') a c
within_then {c = c} h k = record {
  compared_least = omega (arith, h.compared_least, k.compared_least);
  compared_most = omega (arith, h.compared_most, k.compared_most);
  made_least = omega (arith, h.made_least, k.made_least);
  made_most = omega (arith, h.made_most, k.made_most);
  only = k.only ∙ ap {A = Steps} {B = Steps} (λ s. record s { compared = c.compared; made = c.made }) h.only;
}

-- one comparison
pub within_compared : {a b : Steps} → b ≡ record a { compared = a.compared + 1 } → IsWithin 1 0 a b
within_compared e =
    rw e record { compared_least = omega arith; compared_most = omega arith; made_least = omega arith; made_most = omega arith; only = refl }

-- one node
pub within_made : {a b : Steps} → b ≡ record a { made = a.made + 1 } → IsWithin 0 1 a b
within_made e =
    rw e record { compared_least = omega arith; compared_most = omega arith; made_least = omega arith; made_most = omega arith; only = refl }

-- no node
pub made_same : (made : ℕ) (a : Steps) → IsMadeWithin made a a
made_same made a = record { made_least = omega arith; made_most = omega arith; only = refl }

-- a wider bound
pub made_more : {made made' : ℕ} {a b : Steps} → IsMadeWithin made a b → made ≤ made' → IsMadeWithin made' a b
made_more h p = record { made_least = h.made_least; made_most = omega (arith, h.made_most, p); only = h.only }

-- one after another
pub made_then : {made made' : ℕ} {a b c : Steps} → IsMadeWithin made a b → IsMadeWithin made' b c → IsMadeWithin (made + made') a c
made_then {c = c} h k = record {
  made_least = omega (arith, h.made_least, k.made_least);
  made_most = omega (arith, h.made_most, k.made_most);
  only = k.only ∙ ap {A = Steps} {B = Steps} (λ s. record s { made = c.made }) h.only;
}
