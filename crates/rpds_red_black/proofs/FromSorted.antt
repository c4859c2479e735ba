-- The sizes of a tree built of a list.
use Rattle.rpds_red_black.proofs.Words.{◌≡◌, ℕ, zero, suc, ◌+◌, ◌*◌, ◌-◌, ◌/◌, ◌^◌, ◌<◌, ◌≤◌, refl, sym, ap, arith, add-zero, pow-succ', suc_ones, Steps}

-- so many nodes fill this number of black levels, and part of a red one below them
pub record HasHeight (height count : ℕ) : Type 0 where
  pub enough : 2 ^ height ≤ count + 1
  pub few : count < 2 * 2 ^ height

-- no node fills no level
pub height_of_none : (height count : ℕ) → count ≡ 0 → 2 ^ height ≤ count + 1 → height ≡ 0
height_of_none zero count none enough = refl
height_of_none (suc height) count none enough = absurd (omega (arith, pow-succ' 2 height, suc_ones height))

-- the left side of a node, and the right one
pub halves : (height count : ℕ) → (height ≡ 0 → ⊥) → 2 ^ height ≤ count + 1 → count < 2 * 2 ^ height → HasHeight (height - 1) (count - 1 - (count - 1) / 2) × HasHeight (height - 1) ((count - 1) / 2)
halves zero count some enough few = absurd (some refl)
halves (suc height) count some enough few =
    let most : 2 * 2 ^ height ≤ count + 1 = omega (arith, pow-succ' 2 height) in
    let least : count < 2 * (2 * 2 ^ height) = omega (arith, pow-succ' 2 height) in
    let below : suc height - 1 ≡ height = omega arith in
    rw below (record { enough = omega arith; few = omega arith }, record { enough = omega arith; few = omega arith })

-- no node adds to no count
pub made_none : (a : Steps) (count : ℕ) → count ≡ 0 → a ≡ record a { made = a.made + count }
made_none a count none = rw none (ap (λ k. record a { made = k }) (sym (add-zero a.made)))

-- more than one node fills a level
pub height_of_some : (height count : ℕ) → 1 < count → count < 2 * 2 ^ height → 0 < height
height_of_some zero count some few = absurd (omega arith)
height_of_some (suc height) count some few = omega arith
