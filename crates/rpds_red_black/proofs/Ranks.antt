-- How high trees are that were joined or cut: ranks, and what is spent on the way.
use Rattle.rpds_red_black.specs.Take.{IsLowered}
use Rattle.rpds_red_black.proofs.Words.{◌≡◌, ℕ, ◌+◌, ◌*◌, ◌^◌, ◌<◌, ◌≤◌, ◌∷◌, length, length-append, refl, ap, arith, Color, Red, Black, rank, redness, floor_log2}
use Rattle.rpds_red_black.proofs.Words.{most_levels, Loss, Shape, IsSound, MayStandOver, blackness, shape_of, pair_of, IsEven, Painted}
use Rattle.rpds_red_black.proofs.Levels.{log_most}
use Rattle.rpds_red_black.proofs.Logarithm.{log_power, power_le_log}

pub red_or_black : (c : Color) → redness c + blackness c ≡ 1
red_or_black Red = refl
red_or_black Black = refl

-- the rank falls at each step down
rank_under : {K V : Type 0} (c : Color) (s : Shape K V) → MayStandOver c s → rank s + 1 ≤ 2 * (s.black + blackness c) + redness c
rank_under Red s over = omega (arith, ap redness over)
rank_under Black s over = omega (arith, red_or_black s.color)

pub branch_length : {K V A : Type 0} (n : Painted K V A) → length (shape_of n).entries ≡ length n.left.entries + (1 + length n.right.entries)
branch_length n = omega (arith, length-append n.left.entries (pair_of n.entry.value ∷ n.right.entries))

module _ {K V A : Type 0} (n : Painted K V A) (even : IsEven n) where
  pub rank_left : rank n.left + 1 ≤ rank (shape_of n)
  rank_left = rank_under n.color n.left even.left

  pub rank_right : rank n.right + 1 ≤ rank (shape_of n)
  rank_right = omega (arith, rank_under n.color n.right even.right, even.level)

module _ {K V : Type 0} (s : Shape K V) (sound : IsSound s) where
  -- no path is longer than the rank
  pub depth_rank : s.depth ≤ rank s
  depth_rank = omega (arith, sound.short, red_or_black s.color)

  pub black_log : s.black ≤ floor_log2 (length s.entries + 1)
  black_log = power_le_log (length s.entries + 1) s.black sound.full

  pub black_few : length s.entries < 2 ^ 65 → s.black ≤ 65
  black_few fits = omega (arith, black_log, log_most (length s.entries + 1) 65 (omega arith) (omega (arith, fits)))

  -- below a black root
  pub rank_levels : s.color ≡ Black → rank s ≤ most_levels (length s.entries)
  rank_levels black = omega (arith, black_log, ap redness black)

-- of a tree whose root may become black where it is red
pub rank_log : {K V : Type 0} (s : Shape K V) → IsSound s → (s.color ≡ Red → IsSound (record s { black = s.black + 1; color = Black }))
    → rank s ≤ most_levels (length s.entries)
rank_log s sound dark = go s.color refl
  where
    go : (c : Color) → s.color ≡ c → rank s ≤ most_levels (length s.entries)
    go Red is = omega (arith, black_log (record s { black = s.black + 1; color = Black }) (dark is), ap redness is)
    go Black is = rank_levels s sound is

-- what a removal leaves is no higher
pub lowered_rank : {K V : Type 0} (loss : Loss) (old new : Shape K V) → IsLowered loss old new → rank new ≤ rank old
lowered_rank loss old new h = go old.color refl
  where
    go : (c : Color) → old.color ≡ c → rank new ≤ rank old
    go Red is = omega (arith, h.black, h.red is, ap redness is, red_or_black new.color)
    go Black is = omega (arith, h.black, ap redness is, ap redness (h.stays is))

pub log_grows : (m n : ℕ) → 0 < m → m ≤ n → floor_log2 m ≤ floor_log2 n
log_grows m n some more = power_le_log n (floor_log2 m) (omega (arith, (log_power m some).0, more))

pub high_within : {K V : Type 0} (s : Shape K V) (most : ℕ) → IsSound s → length s.entries ≤ most → 2 * s.black ≤ most_levels most
high_within s most sound few = omega (arith, black_log s sound, log_grows (length s.entries + 1) (most + 1) (omega arith) (omega (arith, few)))
