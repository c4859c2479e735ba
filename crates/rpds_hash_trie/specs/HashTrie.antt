-- What a node of a hash trie is seen as, and what makes it a trie.
use Rattle.std.specs.Prelude.{◌≡◌, ℕ, suc, ◌-◌, ◌^◌, ◌<◌, ◌≤◌, Bool, if◌then◌else◌, ◌&&◌, ◌==◌, List, [], ◌∷◌, ◌++◌, length, map, Option, Some, None}
use Rattle.std.specs.List.{AllByRecursion}
use Rattle.rpds_hash_trie.specs.Digits.{digit, digit_count, agree, reach_within, FollowDigits}

-- an entry as a walk shows it: its hash, its key and its value
abbrev pub Stored : Type 0 → Type 0 → Type 0
Stored K V = ℕ × (K × V)

-- how many digits of `bits` bits a hash has; it unfolds only where a proof asks for it, since it computes to 64 cases
unfoldable pub level_count : ℕ → ℕ
level_count bits = digit_count (2 ^ bits)

module _ {K V : Type 0} where
  -- the hashes of the entries
  abbrev pub hashes_in : List (Stored K V) → List ℕ
  hashes_in = map (λ e. e.0)

  -- each entry has the digit p, of `bits` bits, at the depth d
  abbrev pub AllDigit : ℕ → ℕ → ℕ → List (Stored K V) → Type 0
  AllDigit bits d p = AllByRecursion (λ e. digit (2 ^ bits) d e.0 ≡ p)

  -- each entry has the hash h
  abbrev pub AllHash : ℕ → List (Stored K V) → Type 0
  AllHash h = AllByRecursion (λ e. e.0 ≡ h)

  -- each entry's hash has the first d digits of h
  abbrev pub AllAgree : ℕ → ℕ → ℕ → List (Stored K V) → Type 0
  AllAgree bits d h = AllByRecursion (λ e. agree (2 ^ bits) d e.0 h)

  -- an entry of the hash h whose key is the same as s: s is a key, or what a key's form is seen as
  abbrev pub matches : {S : Type 0} → (K → S → Bool) → S → ℕ → Stored K V → Bool
  matches same s h e = e.0 == h && same e.1.0 s

  -- the first entry that passes the test
  abbrev pub found : (Stored K V → Bool) → List (Stored K V) → Option (Stored K V)
  found test [] = None
  found test (e ∷ es) = if test e then Some e else found test es

  -- the entries that don't pass the test
  abbrev pub unmatched : (Stored K V → Bool) → List (Stored K V) → List (Stored K V)
  unmatched test [] = []
  unmatched test (e ∷ es) = if test e then unmatched test es else e ∷ unmatched test es

-- all hashes have their first d digits in common
pub record IsAlike {K V : Type 0} (bits d : ℕ) (xs : List (Stored K V)) : Type 0 where
  pub with_root : ℕ
  pub all : AllAgree bits d with_root xs

-- its entries in the order of a walk, its depth, and how many bits a digit has
pub record Trie (K V : Type 0) : Type 0 where
  pub entries : List (Stored K V)
  pub depth : ℕ
  pub bits : ℕ

-- how many levels, from the depth d on, the hashes g and h share
abbrev pub levels_between : ℕ → ℕ → ℕ → ℕ → ℕ
levels_between bits d g h = reach_within (2 ^ bits) h (g ∷ []) d (level_count bits - d)

-- how many levels, from the node on, the key that is the same as s, whose hash is h, shares with another entry
abbrev pub levels_shared : {K S V : Type 0} → (K → S → Bool) → S → ℕ → Trie K V → ℕ
levels_shared same s h v = reach_within (2 ^ v.bits) h (hashes_in (unmatched (matches same s h) v.entries)) v.depth (level_count v.bits - v.depth)

-- what holds of each node
pub record IsSound {K V : Type 0} (v : Trie K V) : Type 0 where
  pub bits_in : (1 ≤ v.bits) × (v.bits ≤ 6)
  pub deep : v.depth ≤ level_count v.bits
  pub some : 0 < length v.entries
  pub alike : IsAlike v.bits v.depth v.entries
  pub in_order : FollowDigits (2 ^ v.bits) (hashes_in v.entries)

-- a child at the place p of a branch at the depth d
pub record IsChildAt {K V : Type 0} (bits d p : ℕ) (v : Trie K V) : Type 0 where
  pub same_bits : v.bits ≡ bits
  pub lower : v.depth ≡ suc d
  pub digits : AllDigit bits d p v.entries
  pub sound : IsSound v

module _ {K V : Type 0} where
  -- the entries of all children, one child after another
  abbrev pub flat : List (ℕ × Trie K V) → List (Stored K V)
  flat [] = []
  flat (c ∷ cs) = c.1.entries ++ flat cs

  -- children at ascending places, from low on
  abbrev pub AllChildren : ℕ → ℕ → ℕ → List (ℕ × Trie K V) → Type 0
  AllChildren bits d low [] = Unit {0}
  AllChildren bits d low (c ∷ cs) = (low ≤ c.0) × (IsChildAt bits d c.0 c.1 × AllChildren bits d (suc c.0) cs)

-- the children of a branch
pub record IsBranch {K V : Type 0} (bits d : ℕ) (cs : List (ℕ × Trie K V)) : Type 0 where
  pub bits_in : (1 ≤ bits) × (bits ≤ 6)
  pub left : d < level_count bits
  pub several : 2 ≤ length (flat cs)
  pub children : AllChildren bits d 0 cs
  pub alike : IsAlike bits d (flat cs)

-- children of a branch that may hold one entry alone
pub record IsLoose {K V : Type 0} (bits d : ℕ) (cs : List (ℕ × Trie K V)) : Type 0 where
  pub bits_in : (1 ≤ bits) × (bits ≤ 6)
  pub left : d < level_count bits
  pub some : 0 < length (flat cs)
  pub children : AllChildren bits d 0 cs
  pub alike : IsAlike bits d (flat cs)

pub record IsLeaf (bits d : ℕ) : Type 0 where
  pub bits_in : (1 ≤ bits) × (bits ≤ 6)
  pub deep : d ≤ level_count bits

-- the entries of a collision, which stands where no digit is left
pub record IsCollision {K V : Type 0} (bits d h : ℕ) (others : List (Stored K V)) : Type 0 where
  pub bits_in : (1 ≤ bits) × (bits ≤ 6)
  pub full : d ≡ level_count bits
  pub several : 1 ≤ length others
  pub same : AllHash h others
