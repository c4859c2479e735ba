-- Counts that stay, and those of two calls.
use Rattle.rpds_hash_trie.proofs.Words.{◌≡◌, ℕ, suc, ◌+◌, ◌≤◌, refl, arith, Steps, made_more}
use Rattle.rpds_core.specs.Counts.{IsMadeWithin}
use Rattle.rpds_core.proofs.Counts.{made_then}

pub matched_more : (s : Steps) → s ≡ record s { matched = s.matched + 0 }
matched_more s = let e : s.matched + 0 ≡ s.matched = omega arith in rw e refl

-- one node
pub made_one : {a b : Steps} → b ≡ record a { made = a.made + 1 } → IsMadeWithin 1 a b
made_one e = rw e record { made_least = omega arith; made_most = omega arith; only = refl }

-- one call after another, within a bound of both
pub made_both : {m n p : ℕ} {a b c : Steps} → IsMadeWithin m a b → IsMadeWithin n b c → m + n ≤ p → IsMadeWithin p a c
made_both x y le = made_more (made_then x y) le

-- where a bound is one more a level higher, one node of that level fits in
module _ (m : ℕ) {r s : ℕ} {a b : Steps} (x : IsMadeWithin (r + m) a b) (up : s ≡ suc r) where
  pub made_above : IsMadeWithin (s + m) a b
  made_above = made_more x (omega (arith, up))

  pub made_with : {c : Steps} → IsMadeWithin 1 b c → IsMadeWithin (s + m) a c
  made_with y = made_both x y (omega (arith, up))
