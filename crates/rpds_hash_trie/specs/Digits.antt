-- The digits of hashes, and the order that they give. A hash has 64 bits; its digits are those in base `degree`, the lowest first.
use Rattle.std.specs.Prelude.{◌≡◌, ℕ, zero, suc, ◌/◌, ◌%◌, ◌^◌, ◌<◌, Bool, if◌then◌else◌, ◌⊎◌, ◌==◌, nat_lt, List, [], ◌∷◌}
use Rattle.std.specs.List.{list_any}

-- the degrees that a trie may have
abbrev pub IsDegree : ℕ → Type 0
IsDegree d = (d ≡ 2) ⊎ (d ≡ 4) ⊎ (d ≡ 8) ⊎ (d ≡ 16) ⊎ (d ≡ 32) ⊎ (d ≡ 64)

-- how many of the first n digits a hash may have: those whose weight is below 2 ^ 64
abbrev pub digits_within : ℕ → ℕ → ℕ
digits_within degree zero = 0
digits_within degree (suc n) = if nat_lt (degree ^ n) (2 ^ 64) then suc n else digits_within degree n

-- how many digits a hash has
abbrev pub digit_count : ℕ → ℕ
digit_count degree = digits_within degree 64

-- the digit of h at the place d
abbrev pub digit : ℕ → ℕ → ℕ → ℕ
digit degree d h = h / degree ^ d % degree

-- the first d digits of g and h are the same
abbrev pub agree : ℕ → ℕ → ℕ → ℕ → Type 0
agree degree d g h = g % degree ^ d ≡ h % degree ^ d

-- at the first place where their digits differ, g's is smaller
pub record IsBefore (degree g h : ℕ) : Type 0 where
  pub place : ℕ
  pub inside : place < digit_count degree
  pub same : agree degree place g h
  pub less : digit degree place g < digit degree place h

-- each of the hashes is g, or g is before it
abbrev pub AllFrom : ℕ → ℕ → List ℕ → Type 0
AllFrom degree g [] = Unit {0}
AllFrom degree g (h ∷ hs) = ((h ≡ g) ⊎ IsBefore degree g h) × AllFrom degree g hs

-- each hash is before those that come after it, or the same
abbrev pub FollowDigits : ℕ → List ℕ → Type 0
FollowDigits degree [] = Unit {0}
FollowDigits degree (h ∷ hs) = AllFrom degree h hs × FollowDigits degree hs

-- one of the hashes has the first d digits of h
abbrev pub any_agrees : ℕ → ℕ → ℕ → List ℕ → Bool
any_agrees degree d h gs = list_any (λ g. g % degree ^ d == h % degree ^ d) gs

-- the least of the n places from d on such that none of the hashes has as many digits of h, counted from d; n where there is none
abbrev pub reach_within : ℕ → ℕ → List ℕ → ℕ → ℕ → ℕ
reach_within degree h others d zero = 0
reach_within degree h others d (suc n) =
    if any_agrees degree d h others then suc (reach_within degree h others (suc d) n) else 0

-- the least d such that none of the other hashes has the first d digits of h, and the number of digits where each d has one
abbrev pub reach : ℕ → ℕ → List ℕ → ℕ
reach degree h others = reach_within degree h others 0 (digit_count degree)

-- how many of the hashes are h
abbrev pub hash_count : ℕ → List ℕ → ℕ
hash_count h [] = 0
hash_count h (g ∷ gs) = if g == h then suc (hash_count h gs) else hash_count h gs
