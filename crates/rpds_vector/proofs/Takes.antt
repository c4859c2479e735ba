-- A node cut behind an index.
use Rattle.rpds_vector.proofs.Words.{◌≡◌, ℕ, zero, suc, ◌+◌, ◌-◌, ◌*◌, ◌%◌, ◌<◌, ◌≤◌, List, [], ◌∷◌, ◌++◌, length, get_or, take, refl, sym, ap, ◌∙◌, arith}
use Rattle.rpds_vector.proofs.Words.{length-append, append_assoc, append-nil, length-take-le, take-append-le, zero-mul, suc-mul, take-append-add, Rc, behind}
use Rattle.rpds_vector.proofs.Words.{behind_length, Trie, IsMember, IsRow, flatten, height_of, span}
use Rattle.rpds_vector.proofs.OpenNodes.{IsOpenBranch, get_behind}
use Rattle.rpds_vector.proofs.Rows.{member_at, row_more, row_take, flatten_append}
use Rattle.rpds_vector.proofs.Spans.{span_le}
use Rattle.rpds_vector.proofs.Changes.{IsNewBranch, IsNewLeaf}
use Rattle.rpds_vector.proofs.Places.{IsInBranch, IsInLeaf, leaf_place, leaf_inside, child_inside, child_there, there_below, high, row, items, split}

module _ {T : Type 0} (b h c : ℕ) where
  -- the nodes before another one are full
  pub full_before : (ks : List (Trie T)) (i : ℕ) → IsRow b h c ks → i < length ks → length (flatten (take i ks)) ≡ i * c
  full_before [] i w p = absurd (omega arith)
  full_before (k ∷ ks) zero w p = omega (arith, zero-mul c)
  full_before (k ∷ ks) (suc i) w p =
      let full : length k.items ≡ c = w.0.full (omega arith) in
      omega (arith, suc-mul i c, full_before ks i w.1 (omega arith), length-append k.items (flatten (take i ks)))

  -- up to the place r of the node i
  pub take_row : (ks : List (Trie T)) (i r : ℕ) (k : Trie T) → IsRow b h c ks → i < length ks → k ≡ get_or ks i k → r < length k.items → take (i * c + r + 1) (flatten ks) ≡ flatten (take i ks) ++ take (r + 1) k.items
  take_row [] i r k w p e f = absurd (omega arith)
  take_row (a ∷ ks) zero r k w p e f =
      let q : zero * c + r + 1 ≡ r + 1 = omega (arith, zero-mul c) in
      let same : a.items ≡ k.items = ap (λ (t : Trie T). t.items) (sym e) in
      rw (q, same) (take-append-le (r + 1) k.items (flatten ks) (omega arith))
  take_row (a ∷ ks) (suc i) r k w p e f =
      let full : length a.items ≡ c = w.0.full (omega arith) in
      let at : suc i * c + r + 1 ≡ length a.items + (i * c + r + 1) = omega (arith, suc-mul i c) in
      ap (λ m. take m (a.items ++ flatten ks)) at
      ∙ take-append-add a.items (flatten ks) (i * c + r + 1)
      ∙ ap (λ t. a.items ++ t) (take_row ks i r k w.1 (omega arith) e f)
      ∙ sym (append_assoc a.items (flatten (take i ks)) (take (r + 1) k.items))

module _ {T : Type 0} where
  height_of_cut : (ks : List (Trie T)) (i : ℕ) (k : Trie T) → i < length ks → k.height ≡ height_of ks → height_of (take i ks ++ k ∷ []) ≡ height_of ks
  height_of_cut [] i k p e = absurd (omega arith)
  height_of_cut (a ∷ ks) zero k p e = e
  height_of_cut (a ∷ ks) (suc i) k p e = refl

module _ {T A : Type 0} {v : Trie T} {b : ℕ} {rcs : List (Rc (Trie T) A)} {n H i : ℕ} (a : IsInBranch v b rcs n H i) where
  -- the children before the one in which the index lies, and k, which has that one's items up to the index
  pub branch_take : n % span v.bits (H + 1) < length v.items → {rc : Rc (Trie T) A} → rc ≡ get_or rcs i rc → (k : Trie T) → k ≡ record rc.value { items = take (n % span rc.value.bits (H - 1 + 1) + 1) rc.value.items } → IsNewBranch b (take i (behind rcs) ++ k ∷ []) (record v { items = take (n % span v.bits (H + 1) + 1) v.items })
  branch_take there {rc} read k f =
      let ks = behind rcs in
      let h = height_of ks in
      let c = span b H in
      let r = n % span b H in
      let e = get_behind rcs i rc read in
      let inside : i < length ks = omega (arith, child_inside a there, behind_length rcs) in
      let low = child_there a there read in
      let is = rw low.place at f in
      let within : r < length rc.value.items = rw low.place at (there_below a there read) in
      let member = member_at b h c ks i (length ks - 1 - i) rc.value (row a) (omega arith) e in
      let kept = ap (λ (t : Trie T). length t.items) is ∙ length-take-le (r + 1) rc.value.items (omega arith) in
      let height : k.height ≡ h = ap (λ (t : Trie T). t.height) is ∙ member.same_height in
      let new : IsMember b h c 0 k = record { same_bits = ap (λ (t : Trie T). t.bits) is ∙ member.same_bits; same_height = height; some = omega (arith, kept); fits = omega (arith, kept, member.fits); full = λ p. absurd (omega arith) } in
      let cut = height_of_cut ks i k inside height in
      let few = length-take-le i ks (omega arith) in
      let before : length (take i ks) * c ≤ length (flatten (take i ks)) = rw few (omega (arith, full_before b h c ks i (row a) inside)) in
      let all : flatten (take i ks ++ k ∷ []) ≡ take (i * c + r + 1) (flatten ks) =
      flatten_append (take i ks) (k ∷ []) ∙ ap (λ t. flatten (take i ks) ++ t) (append-nil k.items ∙ ap (λ (t : Trie T). t.items) is) ∙ sym (take_row b h c ks i r rc.value (row a) inside e within) in
      record {
        is = rw (split a, items a, ← all, a.o.is, cut) refl;
        sound = record {
          bits_in = a.o.sound.bits_in;
          some = omega (arith, length-append (take i ks) (k ∷ []));
          few = omega (arith, length-append (take i ks) (k ∷ []), few, a.o.sound.few);
          row = rw (cut, ← high a) (row_more b h c (take i ks) k (row_take b h c i ks (row a)) before new);
        };
      }

module _ {T A : Type 0} {v : Trie T} {b : ℕ} {rcs : List (Rc T A)} {n H i : ℕ} (a : IsInLeaf v b rcs n H i) where
  -- the items of a leaf up to the one of the index
  pub leaf_take : IsNewLeaf b (take (i + 1) (behind rcs)) (record v { items = take (n % span v.bits (H + 1) + 1) v.items })
  leaf_take =
      let kept = length-take-le (i + 1) (behind rcs) (omega (arith, leaf_inside a)) in
      record {
        is = rw (leaf_place a, a.o.is) refl;
        sound = record {
          bits_in = a.o.sound.bits_in;
          some = omega (arith, kept);
          few = omega (arith, kept, leaf_inside a, a.o.sound.few);
        };
      }

module _ {T : Type 0} where
  -- the items of the first node of a row
  first_row : (b h c : ℕ) (k : Trie T) (ks : List (Trie T)) (m : ℕ) → IsRow b h c (k ∷ ks) → m ≤ c → take m (flatten (k ∷ ks)) ≡ take m k.items
  first_row b h c k [] m w le = ap (λ l. take m l) (append-nil k.items)
  first_row b h c k (k' ∷ ks) m w le = let full : length k.items ≡ c = w.0.full (omega arith) in take-append-le m k.items (flatten (k' ∷ ks)) (omega arith)

  -- so many levels below a branch, on the path to its first item
  pub branch_first : {A : Type 0} {v : Trie T} {b : ℕ} (rcs : List (Rc (Trie T) A)) (rc : Rc (Trie T) A) (levels : ℕ) (r : Trie T) → IsOpenBranch v b (behind rcs) → rc ≡ get_or rcs 0 rc → 0 < levels → levels ≤ v.height
      → r ≡ record rc.value { items = take (span rc.value.bits (rc.value.height - (levels - 1) + 1)) rc.value.items; height = rc.value.height - (levels - 1) }
      → r ≡ record v { items = take (span v.bits (v.height - levels + 1)) v.items; height = v.height - levels }
  branch_first [] rc levels r o e some le is = absurd (omega (arith, o.sound.some))
  branch_first {v = v} {b = b} (x ∷ rcs) rc levels r o e some le is =
      let same : rc.value ≡ x.value = ap (λ (y : Rc (Trie T) _). y.value) e in
      let row = o.sound.row in
      let high : v.height ≡ x.value.height + 1 = ap (λ (t : Trie T). t.height) o.is in
      let low : rc.value.height - (levels - 1) ≡ v.height - levels = omega (arith, high, ap (λ (t : Trie T). t.height) same) in
      let bits : rc.value.bits ≡ v.bits = ap (λ (t : Trie T). t.bits) same ∙ row.0.same_bits ∙ sym (ap (λ (t : Trie T). t.bits) o.is) in
      let own : v.bits ≡ b = ap (λ (t : Trie T). t.bits) o.is in
      let fits : span v.bits (v.height - levels + 1) ≤ span b (x.value.height + 1) = rw own (span_le b (v.height - levels + 1) (x.value.height + 1) (omega (arith, high))) in
      let all : take (span v.bits (v.height - levels + 1)) rc.value.items ≡ take (span v.bits (v.height - levels + 1)) v.items =
      ap (λ (t : Trie T). take (span v.bits (v.height - levels + 1)) t.items) same
      ∙ sym (first_row b x.value.height (span b (x.value.height + 1)) x.value (behind rcs) (span v.bits (v.height - levels + 1)) row fits)
      ∙ ap (λ l. take (span v.bits (v.height - levels + 1)) l) (sym (ap (λ (t : Trie T). t.items) o.is)) in
      is ∙ λ i. record { items = ((λ j. take (span (bits j) (low j + 1)) rc.value.items) ∙ all) i; height = low i; bits = bits i }
