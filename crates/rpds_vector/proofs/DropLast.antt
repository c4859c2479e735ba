-- A vector without its last item.
use Rattle.rpds_vector.proofs.Words.{Result, Ok, Err, OnOk, ◌≡◌, ◌≢◌, ℕ, ◌+◌, ◌-◌, ◌*◌, ◌%◌, ◌<◌, ◌≤◌, List, length, Option, Some, take, refl, sym, ap, ◌∙◌}
use Rattle.rpds_vector.proofs.Words.{arith, length-take, mod_below, mod-eq_of_lt, mod_self, mul-add-mod_self_right, mul-le-mul_right, zero-mul, Rc}
use Rattle.rpds_vector.proofs.Words.{IsMadeWithin, behind, Steps, Trie, IsSound, height_of, span, IsTop, width, Contents, items_of, IsVector, IsFirstChild}
use Rattle.rpds_vector.proofs.Words.{IsRemadeBut}
use Rattle.rpds_vector.proofs.OpenNodes.{IsOpenLeaf}
use Rattle.rpds_vector.proofs.Changes.{IsLast, IsNewBranch, of_row, last_sizes, branch_fewer}
use Rattle.rpds_vector.proofs.InPlace.{without_last}
use Rattle.rpds_vector.proofs.Roots.{IsOpened, level_of, index_of, room, vector_of}
use Rattle.rpds_vector.proofs.Spans.{span_zero, span_pos, span_le, twice, mod_span}
use Rattle.rpds_vector.proofs.Levels.{width_is}

-- of a path of `levels` nodes to the index n all are made again but the lowest, in which the item stands alone
remade : (alone bits n levels : ℕ) {old new : Steps} → n % span bits alone ≡ 0 → 0 < n % span bits (alone + 1) → new.made + alone ≡ old.made + levels → IsRemadeBut alone bits (n + 1) levels old new
remade alone bits n levels lowest next made =
    let back : n + 1 - 1 ≡ n = omega arith in
    record { lowest = rw back lowest; next = rw back next; made = made }

-- the last item of a branch, by its index, in the last child
module _ {T A : Type 0} {v : Trie T} {b : ℕ} {rcs : List (Rc (Trie T) A)} {m : ℕ} {rc : Rc (Trie T) A} (l : IsLast v b rcs m rc) (n H : ℕ) (level : H ≡ v.height) (last : n % span v.bits (H + 1) + 1 ≡ length v.items) where
  bits : v.bits ≡ b
  bits = ap (λ (t : Trie T). t.bits) l.o.is

  high : H ≡ height_of (behind rcs) + 1
  high = level ∙ ap (λ (t : Trie T). t.height) l.o.is

  sizes : length v.items ≡ m * span b H + length rc.value.items
  sizes = rw high (ap (λ (t : Trie T). length t.items) l.o.is ∙ last_sizes l)

  last_left : n % span b H + 1 ≡ length rc.value.items
  last_left =
      let c = span b H in
      let fits : length rc.value.items ≤ c = rw high (of_row l).fits in
      let some = (of_row l).some in
      let whole : n % span b (H + 1) ≡ m * c + (length rc.value.items - 1) = omega (arith, sizes, some, rw bits at last) in
      let parts : (n % span b (H + 1)) % c ≡ n % c = ap (λ x. x % c) (mod_span n b H) ∙ mul-add-mod_self_right _ c (n % c) ∙ mod-eq_of_lt (mod_below n c (span_pos b H)) in
      let same : (m * c + (length rc.value.items - 1)) % c ≡ length rc.value.items - 1 = mul-add-mod_self_right m c (length rc.value.items - 1) ∙ mod-eq_of_lt (omega (arith, fits, some)) in
      let e : n % c ≡ length rc.value.items - 1 = sym parts ∙ ap (λ x. x % c) whole ∙ same in
      omega (arith, e, some)

  pub last_level : H - 1 ≡ rc.value.height
  last_level = omega (arith, high, (of_row l).same_height)

  pub last_place : n % span rc.value.bits (H - 1 + 1) + 1 ≡ length rc.value.items
  last_place = let back : H - 1 + 1 ≡ H = omega (arith, high) in rw ((of_row l).same_bits, back) last_left

  pub last_shift : H * v.bits < 64 → (H - 1) * rc.value.bits < 64
  last_shift lt =
      let le : (H - 1) * v.bits ≤ H * v.bits = mul-le-mul_right v.bits (omega arith) in
      rw ((of_row l).same_bits, ← bits) (omega (arith, le, lt))

  -- more than one item in all, but one in the last child
  others : 1 < length v.items → length rc.value.items ≡ 1 → 0 < m
  others more one =
      let none : m ≡ 0 → length v.items ≡ 1 = λ e. let z : m * span b H ≡ 0 = rw e (zero-mul (span b H)) in omega (arith, sizes, z, one) in
      let some : m ≢ 0 = λ e. omega (arith, none e, more) in
      omega (arith, some)

  -- with r, what is left of the index below the branch: the child has others,
  pub left_more : {r : ℕ} → r ≡ n % span b H → 0 < r → 1 < length rc.value.items
  left_more e some = let left : n % span b H + 1 ≡ length rc.value.items = last_left in omega (arith, left, e, some)

  -- or goes
  pub gone : {r : ℕ} → r ≡ n % span b H → r ≡ 0 → 1 < length v.items → IsNewBranch b (take m (behind rcs)) (without_last v)
  gone e none more =
      let left : n % span b H + 1 ≡ length rc.value.items = last_left in
      let one : length rc.value.items ≡ 1 = omega (arith, left, e, none) in
      branch_fewer l (others more one) one

  -- a branch over what was made again
  pub branch_remade : {old mid new : Steps} (alone : ℕ) → IsRemadeBut alone rc.value.bits (n + 1) (H - 1 + 1) old mid → new.made ≡ mid.made + 1 → IsRemadeBut alone v.bits (n + 1) (H + 1) old new
  branch_remade alone r more =
      let same : rc.value.bits ≡ v.bits = (of_row l).same_bits ∙ sym bits in
      record { lowest = rw same at r.lowest; next = rw same at r.next; made = omega (arith, r.made, more, high) }

  -- a branch whose last child goes
  pub branch_cut : {r : ℕ} {old new : Steps} → r ≡ n % span b H → r ≡ 0 → 1 < length v.items → new.made ≡ old.made + 1 → IsRemadeBut H v.bits (n + 1) (H + 1) old new
  branch_cut e none more one = remade H v.bits n (H + 1) (rw bits (sym e ∙ none)) (omega (arith, last, more)) (omega (arith, one))

-- a leaf
pub leaf_remade : {T : Type 0} {v : Trie T} {b : ℕ} {xs : List T} {old new : Steps} (n H : ℕ) → IsOpenLeaf v b xs → H ≡ v.height → n % span v.bits (H + 1) + 1 ≡ length v.items → 1 < length v.items → new.made ≡ old.made + 1 → IsRemadeBut 0 v.bits (n + 1) (H + 1) old new
leaf_remade {v = v} n H o level last more one =
    let low : H ≡ 0 = level ∙ ap (λ (t : Trie _). t.height) o.is in
    let none : n % 1 < 1 = mod_below n 1 (omega arith) in
    let at : n % span v.bits (0 + 1) + 1 ≡ length v.items = rw low at last in
    remade 0 v.bits n (H + 1) (rw (span_zero v.bits) (omega (arith, none))) (omega (arith, at, more)) (omega (arith, one, low))

-- what holds in any case holds where a call succeeds
pub on_ok : {R E P : Type 0} (r : Result R E) → P → OnOk r P
on_ok (Ok x) p = p
on_ok (Err x) p = tt

-- a vector of more than one item that loses the last: its root is as high as h, and `lower` is what the others need
pub record IsShrinking {T : Type 0} (s : Contents T) (v : Trie T) (bits len h lower : ℕ) : Type 0 where
  pub o : IsOpened s v bits len
  pub sound : IsSound v
  pub more : 1 < len
  pub levels : width len bits ≡ h + 1
  pub fewer : width (len - 1) bits ≡ lower + 1
  pub room : len - 1 ≤ span bits (lower + 1)

-- a root that holds all items of s but the last
pub record IsFewer {T A : Type 0} (s : Contents T) (root : Option (Rc (Trie T) A)) (bits len : ℕ) : Type 0 where
  pub is : ◌≡◌ {A = Contents T} (record { items = items_of root; bits = bits }) (record s { items = take (length s.items - 1) s.items })
  pub vector : IsVector root bits (len - 1)

module _ {T : Type 0} {s : Contents T} {v : Trie T} {bits len h lower : ℕ} (d : IsShrinking s v bits len h lower) where
  some : 1 ≤ bits
  some = rw d.o.same_bits at d.sound.bits_in.0

  pub as_high : h ≡ v.height
  as_high = level_of h d.o d.sound d.levels

  top : 0 < h → span bits h < len
  top = rw (← as_high, d.o.counted, d.o.same_bits) at d.o.top

  -- the last item as the root takes it
  pub last_at : (len - 1) % span v.bits (h + 1) + 1 ≡ length v.items
  last_at = omega (arith, index_of h d.o d.sound d.levels (len - 1) (omega (arith, d.more)), d.o.counted, d.more)

  -- other items that fill what one child has room for need one level less
  filled_below : 0 < h → len - 1 ≡ span bits h → width (len - 1) bits ≡ h
  filled_below p full =
      let g = h - 1 in
      let back : g + 1 ≡ h = omega arith in
      let fill : len - 1 ≡ span bits (g + 1) = rw back full in
      width_is bits some (len - 1) g (omega arith) (λ _. omega (arith, fill, twice bits g some, span_pos bits g)) ∙ back

  -- the first child has room for all of them
  filled : lower < h → len - 1 ≡ span bits h
  filled less = omega (arith, span_le bits (lower + 1) h (omega (arith, less)), top (omega (arith, less)), d.room)

  -- the root is needed for them
  over : h ≤ lower → 0 < h → span bits h < len - 1
  over le p = let other : len - 1 ≢ span bits h = λ e. omega (arith, filled_below p e, d.fewer, le) in omega (arith, top p, other)

  kept : h ≤ lower → width (len - 1) bits ≡ h + 1
  kept le =
      let fits : len ≤ span bits (v.height + 1) = room h d.o d.sound d.levels in
      width_is bits some (len - 1) h (omega (arith, fits, ap (λ n. span bits (n + 1)) as_high)) (over le)

  -- no node is made where a level goes
  pub none_remade : lower < h → (old : Steps) → (alone : ℕ) × IsRemadeBut alone s.bits (length s.items) (width (length s.items - 1) s.bits) old old
  none_remade less old =
      let full = filled less in
      let low : len - 1 < span bits (h + 1) = omega (arith, full, twice bits h some, span_pos bits h) in
      rw (d.o.is, d.o.counted, filled_below (omega (arith, less)) full) (
        h,
        record { lowest = rw full (mod_self (span bits h)); next = rw (mod-eq_of_lt low) (omega (arith, d.more)); made = refl },
      )

  -- the root's path is the vector's
  pub root_remade : h ≤ lower → {alone : ℕ} {old new : Steps} → IsRemadeBut alone v.bits (len - 1 + 1) (h + 1) old new → IsRemadeBut alone s.bits (length s.items) (width (length s.items - 1) s.bits) old new
  root_remade le r =
      let back : len - 1 + 1 ≡ len = omega (arith, d.more) in
      rw (d.o.is, d.o.counted, kept le) (rw (d.o.same_bits, back) at r)

  pub root_within : {old new : Steps} → IsMadeWithin (h + 1) old new → IsMadeWithin (width (length s.items) s.bits) old new
  root_within r = rw (d.o.is, d.o.counted, d.levels) r

  module _ {A : Type 0} (n : Rc (Trie T) A) where
    taken : n.value.items ≡ take (len - 1) v.items → n.value.bits ≡ v.bits → IsTop n.value → IsFewer s (Some n) bits len
    taken is bits_are topped = record {
      is = rw (d.o.is, is, d.o.counted) refl;
      vector = vector_of (rw d.o.same_bits at d.sound.bits_in) n (len - 1) (bits_are ∙ d.o.same_bits) (omega (arith, ap (λ (xs : List T). length xs) is, length-take (len - 1) v.items, d.o.counted)) topped;
    }

    -- the first child, where the root would be one level too high
    pub first_fewer : lower < h → IsFirstChild v n.value → IsFewer s (Some n) bits len
    first_fewer less first =
        let all : span v.bits v.height ≡ len - 1 = rw (d.o.same_bits, ← as_high) (sym (filled less)) in
        let held : n.value.items ≡ take (len - 1) v.items = ap (λ (t : Trie T). t.items) first.1 ∙ ap (λ m. take m v.items) all in
        let same_bits : n.value.bits ≡ v.bits = ap (λ (t : Trie T). t.bits) first.1 in
        let size : length n.value.items ≡ span bits (n.value.height + 1) = rw (first.0, held) (omega (arith, length-take (len - 1) v.items, d.o.counted, rw d.o.same_bits at all)) in
        taken held same_bits (λ p. rw (same_bits, d.o.same_bits) (omega (arith, size, twice bits n.value.height some, span_pos bits n.value.height)))

    -- the root itself, else
    pub root_fewer : h ≤ lower → n.value ≡ without_last v → IsFewer s (Some n) bits len
    root_fewer le is =
        let size : length (take (length v.items - 1) v.items) ≡ len - 1 = omega (arith, length-take (length v.items - 1) v.items, d.o.counted) in
        taken (ap (λ (t : Trie T). t.items) is ∙ ap (λ m. take (m - 1) v.items) d.o.counted) (ap (λ (t : Trie T). t.bits) is) (rw (is, d.o.same_bits, size, ← as_high) (over le))
