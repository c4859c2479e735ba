-- A vector that was opened, at its root.
use Rattle.rpds_vector.proofs.Words.{◌≡◌, ℕ, ◌+◌, ◌*◌, ◌/◌, ◌%◌, ◌^◌, ◌<◌, ◌≤◌, Option, Some, IfSome, List, ◌++◌, length, length-append, true, false, ltb, refl}
use Rattle.rpds_vector.proofs.Words.{sym, ap, ◌∙◌, subst, arith, div-one, mod-eq_of_lt, ltb-true, ltb-false, Rc, Trie, IsSound, IsTop, span, width, Contents}
use Rattle.rpds_vector.proofs.Words.{items_of, IsRoot, IsVector, IsFull, IsIn}
use Rattle.rpds_vector.proofs.Levels.{shallow, width_is}
use Rattle.rpds_vector.proofs.Spans.{span_pos, span_zero, twice}

-- the vector s has the root v
pub record IsOpened {T : Type 0} (s : Contents T) (v : Trie T) (bits len : ℕ) : Type 0 where
  pub is : s ≡ record { items = v.items; bits = bits }
  pub counted : length v.items ≡ len
  pub same_bits : v.bits ≡ bits
  pub top : IsTop v

pub opened : {T A : Type 0} {root : Option (Rc (Trie T) A)} {bits len : ℕ} {s : Contents T} {n : Rc (Trie T) A} {v : Trie T} → ◌≡◌ {A = Contents T} (record { items = items_of root; bits = bits }) s → root ≡ Some n → v ≡ n.value → IsVector root bits len → IsOpened s v bits len
opened {T} {A} {root} {bits} {len} {s} {n} {v} view is at inv =
    let root_is = subst (λ r. IfSome r (λ (m : Rc (Trie T) A). IsRoot bits m.value)) is inv.root_is in
    let items : v.items ≡ items_of root = ap (λ (t : Trie T). t.items) at ∙ sym (ap (λ r. items_of r) is) in
    record {
      is = sym view ∙ ap (λ xs. let t : Contents T = record { items = xs; bits = bits } in t) (sym items);
      counted = ap (λ (xs : List T). length xs) items ∙ sym inv.counted;
      same_bits = ap (λ (t : Trie T). t.bits) at ∙ root_is.same_bits;
      top = subst IsTop (sym at) root_is.top;
    }

module _ {T : Type 0} {s : Contents T} {v : Trie T} {bits len : ℕ} (h : ℕ) (o : IsOpened s v bits len) (sound : IsSound v) (levels : width len bits ≡ h + 1) where
  pub room : len ≤ span bits (v.height + 1)
  room = rw (o.same_bits, o.counted) at sound.room

  top : 0 < v.height → span bits v.height < len
  top = rw (o.same_bits, o.counted) at o.top

  -- its height is that of a vector of this length
  pub level_of : h ≡ v.height
  level_of = omega (arith, width_is bits (rw o.same_bits at sound.bits_in.0) len v.height room top, levels)

  -- the index as the root takes it
  pub index_of : (n : ℕ) → n < len → n % span v.bits (h + 1) ≡ n
  index_of n lt = mod-eq_of_lt (rw level_of (omega (arith, o.counted, sound.room)))

  pub root_in : h * bits < 64 → (n : ℕ) → n < len → IsIn v n h
  root_in few n lt = record { level = level_of; shift = rw o.same_bits few; there = rw (index_of n lt) (omega (arith, o.counted)) }

  pub shallow_root : h * bits < 64 → v.height < 64
  shallow_root shift = omega (arith, level_of, shallow h bits shift (rw o.same_bits at sound.bits_in.0))

-- how many items the last leaf has, as the program computes it
pub last_bucket : {T A : Type 0} {root : Option (Rc (Trie T) A)} {bits len place : ℕ} {s : Contents T} → ◌≡◌ {A = Contents T} (record { items = items_of root; bits = bits }) s → IsVector root bits len → place ≡ len / span bits 0 % 2 ^ bits → place ≡ length s.items % 2 ^ s.bits
last_bucket {T} {bits = bits} {len = len} view inv is =
    is ∙ rw (span_zero bits, div-one len, inv.counted) (ap (λ (s : Contents T). length s.items % 2 ^ s.bits) view)

-- one item more: a root that has room for it stays as high
pub record IsNext {T : Type 0} (s : Contents T) (v : Trie T) (bits len h next : ℕ) : Type 0 where
  pub o : IsOpened s v bits len
  pub same : h ≡ v.height
  pub stays : next ≤ h → (len < span bits (h + 1)) × (next ≡ h)
  pub grows : h < next → (len ≡ span bits (h + 1)) × (next ≡ h + 1)

next_cases : (n s h next : ℕ) → n ≤ s → (n < s → next ≡ h) → (n ≡ s → next ≡ h + 1) → (next ≤ h → n < s) × (h < next → n ≡ s)
next_cases n s h next le p q = elim (ltb n s) as (λ t. ltb n s ≡ t → (next ≤ h → n < s) × (h < next → n ≡ s)) [
  | true ↦ λ e. let lt = ltb-true n s e in let same = p lt in (λ _. lt, λ z. absurd (omega arith))
  | false ↦ λ e. let eq : n ≡ s = omega (arith, ltb-false n s e) in let more = q eq in (λ z. absurd (omega arith), λ _. eq)
] refl

pub next_of : {T A : Type 0} {root : Option (Rc (Trie T) A)} {bits len h next : ℕ} {s : Contents T} {n : Rc (Trie T) A} {v : Trie T} → ◌≡◌ {A = Contents T} (record { items = items_of root; bits = bits }) s → root ≡ Some n → v ≡ n.value → IsVector root bits len → IsSound v → width len bits ≡ h + 1 → width (len + 1) bits ≡ next + 1 → IsNext s v bits len h next
next_of {bits = b} {len = len} {h = h} {next = next} {v = v} view is at inv sound w w' =
    let o = opened view is at inv in
    let same : h ≡ v.height = level_of h o sound w in
    let some : 1 ≤ b = inv.bits_in.0 in
    let fits : len ≤ span b (h + 1) = rw same (room h o sound w) in
    let over : 0 < h → span b h < len = rw same (top h o sound w) in
    let p : len < span b (h + 1) → next ≡ h = λ lt. let e = width_is b some (len + 1) h (omega arith) (λ q. omega (arith, over q)) in omega arith in
    let q : len ≡ span b (h + 1) → next ≡ h + 1 = λ eq. let e = width_is b some (len + 1) (h + 1) (omega (arith, twice b (h + 1) some, span_pos b (h + 1))) (λ _. omega arith) in omega arith in
    let cases = next_cases len (span b (h + 1)) h next fits p q in
    record { o = o; same = same; stays = λ z. (cases.0 z, p (cases.0 z)); grows = λ z. (cases.1 z, q (cases.1 z)) }

pub width_next : {T : Type 0} {s : Contents T} {v : Trie T} {bits len h next n : ℕ} → IsNext s v bits len h next → width (len + 1) bits ≡ n → width (length s.items + 1) s.bits ≡ n
width_next i w = rw (i.o.is, i.o.counted) w

-- its left side is full then
pub full_root : {T : Type 0} {s : Contents T} {v k : Trie T} {bits len h next m : ℕ} → IsNext s v bits len h next → h < next → m ≡ h → k ≡ v → IsFull bits m k
full_root i lt as_high same = rw (same, as_high) (record { same_bits = i.o.same_bits; level = sym i.same; full = i.o.counted ∙ (i.grows lt).0 })

-- the bits of the fields are those that are seen
pub as_seen : {T A : Type 0} {root : Option (Rc (Trie T) A)} {s : Contents T} {xs : List T} {bits len : ℕ} → ◌≡◌ {A = Contents T} (record { items = xs; bits = bits }) s → IsVector root bits len → IsVector root s.bits len
as_seen {T} {A} {root} {len = len} view inv = subst (λ b. IsVector root b len) (ap (λ (t : Contents T). t.bits) view) inv

module _ {T A : Type 0} {bits : ℕ} (bits_in : (1 ≤ bits) × (bits < 64)) (n : Rc (Trie T) A) where
  pub vector_of : (len : ℕ) → n.value.bits ≡ bits → length n.value.items ≡ len → IsTop n.value → IsVector (Some n) bits len
  vector_of len same_bits counted top = record { bits_in = bits_in; counted = sym counted; root_is = record { same_bits = same_bits; top = top } }

  -- a root of other items, and no fewer
  pub vector_more : {s : Contents T} {v : Trie T} {len m : ℕ} (xs : List T) → IsOpened s v bits len → n.value ≡ record v { items = xs } → length xs ≡ m → len ≤ m → IsVector (Some n) bits m
  vector_more {m = m} xs o is size le =
      vector_of m (ap (λ (t : Trie T). t.bits) is ∙ o.same_bits) (ap (λ (t : Trie T). length t.items) is ∙ size) (rw is (λ p. omega (arith, o.top p, o.counted)))

  -- a root over one without room
  pub vector_over : {v : Trie T} {h m : ℕ} (xs : List T) → IsFull bits h v → n.value ≡ record v { items = v.items ++ xs; height = h + 1 } → length v.items + length xs ≡ m → 0 < length xs → IsVector (Some n) bits m
  vector_over {v} {h} {m} xs full is size some =
      let all = length-append v.items xs in
      vector_of m (ap (λ (t : Trie T). t.bits) is ∙ full.same_bits) (omega (arith, ap (λ (t : Trie T). length t.items) is)) (rw (is, full.same_bits) (λ _. omega (arith, full.full)))
