-- The first items of a vector.
use Rattle.rpds_vector.proofs.Words.{◌≡◌, ℕ, zero, suc, ◌+◌, ◌-◌, ◌*◌, ◌/◌, ◌%◌, ◌^◌, ◌<◌, ◌≤◌, Bool, true, false, cond, ltb, Some, List, ◌++◌, drop, length}
use Rattle.rpds_vector.proofs.Words.{take, refl, sym, ap, ◌∙◌, arith, remove, ltb-true, ltb-false, length-take, length-take-le, take-take, mod-eq_of_lt}
use Rattle.rpds_vector.proofs.Words.{div-mul-le_self, mul-le-mul_right, Rc, Trie, IsSound, span, digits_within, Contents, IsVector, IsIn}
use Rattle.rpds_vector.specs.Width.{width}
use Rattle.rpds_vector.proofs.Levels.{span_next, span_one}
use Rattle.rpds_vector.proofs.Spans.{span_zero, span_le}
use Rattle.rpds_vector.proofs.Roots.{IsOpened, level_of, room, vector_of}

module _ (b : ℕ) where
  -- a number of so many digits has more below it than fewer digits count
  digits_over : (most m w : ℕ) → digits_within (2 ^ b) most m ≡ suc w → 0 < w → span b w ≤ m
  digits_over zero m w is some = absurd (omega arith)
  digits_over (suc most) m w is some = go (λ k u e p. digits_over most k u e p) (ltb m (2 ^ b)) refl w is some
    where
      go : ((k u : ℕ) → digits_within (2 ^ b) most k ≡ suc u → 0 < u → span b u ≤ k) → (t : Bool) → ltb m (2 ^ b) ≡ t → (w : ℕ) → cond t 1 (suc (digits_within (2 ^ b) most (m / 2 ^ b))) ≡ suc w → 0 < w → span b w ≤ m
      go ih true e w is some = absurd (omega arith)
      go ih false e zero is some = absurd (omega arith)
      go ih false e (suc zero) is some = omega (arith, span_one b, ltb-false m (2 ^ b) e)
      go ih false e (suc (suc w)) is some =
          let low = ih (m / 2 ^ b) (suc w) (omega (arith, is)) (omega arith) in
          let up : span b (suc w) * 2 ^ b ≤ m / 2 ^ b * 2 ^ b = mul-le-mul_right (2 ^ b) low in
          omega (arith, up, span_next b (suc w), div-mul-le_self m (2 ^ b))

  pub width_over : (n h : ℕ) → width n b ≡ h + 1 → 0 < h → span b h < n
  unfolding width
  width_over n h is some =
      let e : suc h ≡ h + 1 = omega arith in
      let over : span b h ≤ n - 1 = digits_over (n - 1) (n - 1) h (is ∙ sym e) some in
      omega (arith, over, span_le b 0 h (omega arith), span_zero b)

module _ {T : Type 0} {s : Contents T} {v : Trie T} {bits len : ℕ} (H : ℕ) (o : IsOpened s v bits len) (sound : IsSound v) (levels : width len bits ≡ H + 1) (count h : ℕ) (levels' : width count bits ≡ h + 1) (fits : count ≤ span bits (h + 1)) (some : 0 < count) (fewer : count < len) where
  as_high : H ≡ v.height
  as_high = level_of H o sound levels

  pub lower : h ≤ H
  lower = go (ltb H h) refl
    where
      go : (t : Bool) → ltb H h ≡ t → h ≤ H
      go true e =
          let lt : H < h = ltb-true H h e in
          let most : len ≤ span bits (H + 1) = rw as_high (room H o sound levels) in
          absurd (omega (arith, most, width_over bits count h levels' (omega arith), span_le bits (H + 1) h (omega arith)))
      go false e = omega (arith, ltb-false H h e)

  pub down : H - h ≤ v.height
  down = omega (arith, as_high)

  -- the node on the path to the first item that is as high as the vector of `count` items
  module _ {f : Trie T} (is : f ≡ record v { items = take (span v.bits (v.height - (H - h) + 1)) v.items; height = v.height - (H - h) }) where
    height : f.height ≡ h
    height = ap (λ (t : Trie T). t.height) is ∙ omega (arith, as_high, lower)

    same_bits : f.bits ≡ bits
    same_bits = ap (λ (t : Trie T). t.bits) is ∙ o.same_bits

    cut : f.items ≡ take (span bits (h + 1)) v.items
    cut = ap (λ (t : Trie T). t.items) is ∙ ap (λ n. take (span v.bits (n + 1)) v.items) (omega (arith, as_high, lower)) ∙ ap (λ n. take (span n (h + 1)) v.items) o.same_bits

    place : (count - 1) % span f.bits (h + 1) ≡ count - 1
    place = rw same_bits (mod-eq_of_lt (omega arith))

    pub in_first : h * bits < 64 → IsIn f (count - 1) h
    in_first shift = record {
      level = sym height;
      shift = rw same_bits shift;
      there = rw (place, cut) (omega (arith, length-take (span bits (h + 1)) v.items, o.counted));
    }

    module _ {k : Trie T} (taken : k ≡ record f { items = take ((count - 1) % span f.bits (h + 1) + 1) f.items }) where
      pub first_items : k.items ≡ take count v.items
      first_items =
          let one : count - 1 + 1 ≡ count = omega arith in
          ap (λ (t : Trie T). t.items) taken ∙ (λ i. take (place i + 1) (cut i)) ∙ ap (λ n. take n (take (span bits (h + 1)) v.items)) one ∙ take-take count (span bits (h + 1)) v.items fits

      pub first_vector : {A : Type 0} → (1 ≤ bits) × (bits < 64) → (rc : Rc (Trie T) A) → rc.value ≡ k → IsVector (Some rc) bits count
      first_vector bits_in rc e =
          let own : k.bits ≡ bits = ap (λ (t : Trie T). t.bits) taken ∙ same_bits in
          let high : k.height ≡ h = ap (λ (t : Trie T). t.height) taken ∙ height in
          let size : length k.items ≡ count = ap length first_items ∙ length-take-le count v.items (omega (arith, o.counted)) in
          vector_of bits_in rc count (ap (λ (t : Trie T). t.bits) e ∙ own) (ap (λ (t : Trie T). length t.items) e ∙ size) (rw e (λ p. rw (own, high, size) (width_over bits count h levels' (rw high at p))))

-- the items without the one at an index
pub remove_is : {X : Type 0} (xs : List X) (i : ℕ) → take i xs ++ drop (i + 1) xs ≡ remove xs i
remove_is xs i = let e : i + 1 ≡ suc i = omega arith in ap (λ n. take i xs ++ drop n xs) e
