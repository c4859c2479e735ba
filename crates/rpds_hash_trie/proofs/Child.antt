-- The child at the digit of a hash.
use Rattle.rpds_hash_trie.proofs.Words.{◌≡◌, ℕ, suc, ◌+◌, ◌-◌, ◌*◌, ◌/◌, ◌%◌, ◌^◌, ◌<◌, ◌≤◌, Bool, List, Some, None, length, refl, sym, ap, ◌∙◌, subst, arith, item_at, seen, agree, digit, hash_count, reach_within, Trie, flat, IsChildAt, AllAgree, IsBranch, unmatched, matches, found, hashes_in, branch_of, Rc}
use Rattle.rpds_hash_trie.specs.HashTrie.{level_count, levels_shared}
use Rattle.rpds_hash_trie.proofs.OpenNodes.{IsOpenBranch, seen_item, item_seen}
use Rattle.rpds_hash_trie.proofs.Digits.{pow_is, hash_left_next}
use Rattle.rpds_hash_trie.proofs.Flat.{each_without}
use Rattle.rpds_hash_trie.proofs.Children.{under, found_under, child_at, once_under, agree_under, count_under}
use Rattle.rpds_hash_trie.proofs.Reach.{shared_under}

-- c is the child of v on the way to the key
pub record IsChild {K S V : Type 0} (eq : K → S → Bool) (k : S) (h : ℕ) (v c : Trie K V) : Type 0 where
  pub bits_same : c.bits ≡ v.bits
  pub lower : c.depth ≡ suc v.depth
  pub inside : v.depth < level_count v.bits
  pub found_in : found (matches eq k h) v.entries ≡ found (matches eq k h) c.entries
  pub once : length v.entries ≤ length (unmatched (matches eq k h) v.entries) + 1 → length c.entries ≤ length (unmatched (matches eq k h) c.entries) + 1
  pub alike : AllAgree v.bits v.depth h v.entries → AllAgree c.bits c.depth h c.entries
  pub count : hash_count h (hashes_in c.entries) ≤ hash_count h (hashes_in v.entries)
  pub shares : length v.entries ≤ length (unmatched (matches eq k h) v.entries) + 1 → AllAgree v.bits v.depth h v.entries → levels_shared eq k h v ≡ suc (levels_shared eq k h c)

module _ {K S V : Type 0} (eq : K → S → Bool) (k : S) (h bits d : ℕ) (cs : List (ℕ × Trie K V)) (b : IsBranch bits d cs) where
  abbrev p : ℕ
  p = digit (2 ^ bits) d h

  pub branch_none : item_at p cs ≡ None → found (matches eq k h) (flat cs) ≡ None
  branch_none i = found_under eq k h bits d p refl 0 cs b.children ∙ ap (λ o. found (matches eq k h) (under o)) i

  child_of : (c : Trie K V) → item_at p cs ≡ Some c → IsChild eq k h (branch_of bits d cs) c
  child_of c i =
      let child : IsChildAt bits d p c = child_at eq k h bits d p refl 0 cs c b.children i in
      let count = once_under eq k h bits d p refl 0 cs b.children in
      let count2 : length (flat cs) + length (unmatched (matches eq k h) c.entries) ≡ length (unmatched (matches eq k h) (flat cs)) + length c.entries = rw i at count in
      let counted = count_under eq k h bits d p refl 0 cs in
      let several : 2 ≤ length (flat cs) = b.several in
      let left : d < level_count bits = b.left in
      let some : level_count bits - d ≡ suc (level_count bits - suc d) = omega arith in
      record {
        bits_same = child.same_bits;
        lower = child.lower;
        inside = b.left;
        found_in = found_under eq k h bits d p refl 0 cs b.children ∙ ap (λ o. found (matches eq k h) (under o)) i;
        once = (λ o. omega arith);
        alike = (λ a. rw (child.same_bits, child.lower) (subst (λ o. AllAgree bits (suc d) h (under o)) i (agree_under eq k h bits d p refl 0 cs b.children a)));
        count = rw i at counted;
        shares = (λ o a. rw (some, child.same_bits, child.lower) (shared_under bits h eq k d p refl 0 (level_count bits - suc d) cs b.children (omega arith) (each_without (λ e. agree (2 ^ bits) d e.0 h) (matches eq k h) (flat cs) a)
            ∙ ap (λ x. suc (reach_within (2 ^ bits) h (hashes_in (unmatched (matches eq k h) (under x))) (suc d) (level_count bits - suc d))) i));
      }

-- the branch v, opened, and its child at the place of the key's digit
pub record HasChild {K S V A : Type 0} (eq : K → S → Bool) (k : S) (h bits d place : ℕ) (v : Trie K V) (rcs : List (ℕ × Rc (Trie K V) A)) (old : Rc (Trie K V) A) : Type 0 where
  pub opened : IsOpenBranch v bits d (seen rcs)
  pub place_is : place ≡ digit (2 ^ bits) d h
  pub held : item_at place rcs ≡ Some old
  pub there : item_at (digit (2 ^ bits) d h) (seen rcs) ≡ Some old.value
  pub child : IsChild eq k h v old.value

-- the same where no child is there, and so no entry of the key
pub record HasNoChild {K S V A : Type 0} (eq : K → S → Bool) (k : S) (h bits d place : ℕ) (v : Trie K V) (rcs : List (ℕ × Rc (Trie K V) A)) : Type 0 where
  pub opened : IsOpenBranch v bits d (seen rcs)
  pub place_is : place ≡ digit (2 ^ bits) d h
  pub there : item_at (digit (2 ^ bits) d h) (seen rcs) ≡ None
  pub absent : found (matches eq k h) v.entries ≡ None

module _ {K S V A : Type 0} (eq : K → S → Bool) (k : S) (h : ℕ) {bits d place : ℕ} {v : Trie K V} {rcs : List (ℕ × Rc (Trie K V) A)} (o : IsOpenBranch v bits d (seen rcs)) (pl : place ≡ digit (2 ^ bits) d h) where
  pub has_child : {old : Rc (Trie K V) A} → item_at place rcs ≡ Some old → HasChild eq k h bits d place v rcs old
  has_child {old = old} i =
      let there : item_at (digit (2 ^ bits) d h) (seen rcs) ≡ Some old.value = sym (ap (λ n. item_at n (seen rcs)) pl) ∙ item_seen place rcs ∙ ap seen_item i in
      record { opened = o; place_is = pl; held = i; there = there; child = subst (λ w. IsChild eq k h w old.value) (sym o.is) (child_of eq k h bits d (seen rcs) o.sound old.value there) }

  pub has_no_child : item_at place rcs ≡ None → HasNoChild eq k h bits d place v rcs
  has_no_child i =
      let there : item_at (digit (2 ^ bits) d h) (seen rcs) ≡ None = sym (ap (λ n. item_at n (seen rcs)) pl) ∙ item_seen place rcs ∙ ap seen_item i in
      record { opened = o; place_is = pl; there = there; absent = ap (λ (w : Trie K V). found (matches eq k h) w.entries) o.is ∙ branch_none eq k h bits d (seen rcs) o.sound there }

-- what a look-up does at a branch: it takes the next digit off what is left of the hash
module _ {K V : Type 0} {bits d : ℕ} {v : Trie K V} {cs : List (ℕ × Trie K V)} (o : IsOpenBranch v bits d cs) {hash_left : ℕ} (h : ℕ) (r : hash_left ≡ h / 2 ^ (v.depth * v.bits)) where
  hash_left_is : hash_left ≡ h / 2 ^ (d * bits)
  hash_left_is = r ∙ ap (λ (w : Trie K V). h / 2 ^ (w.depth * w.bits)) o.is

  place_is : {place : ℕ} → place ≡ hash_left % 2 ^ bits → place ≡ digit (2 ^ bits) d h
  place_is pl = pl ∙ ap (λ n. n % 2 ^ bits) (hash_left_is ∙ ap (λ n. h / n) (pow_is bits d))

module _ {K S V A : Type 0} (eq : K → S → Bool) (k : S) (h : ℕ) {bits d hash_left place : ℕ} {v : Trie K V} {rcs : List (ℕ × Rc (Trie K V) A)} (o : IsOpenBranch v bits d (seen rcs)) (r : hash_left ≡ h / 2 ^ (v.depth * v.bits)) (pl : place ≡ hash_left % 2 ^ bits) where
  pub look_none : item_at place rcs ≡ None → HasNoChild eq k h bits d place v rcs
  look_none = has_no_child eq k h o (place_is o h r pl)

  pub look_child : {old : Rc (Trie K V) A} → item_at place rcs ≡ Some old → HasChild eq k h bits d place v rcs old
  look_child = has_child eq k h o (place_is o h r pl)

-- the child, copied or under another name
module _ {K S V A : Type 0} {eq : K → S → Bool} {k : S} {h bits d place : ℕ} {v : Trie K V} {rcs : List (ℕ × Rc (Trie K V) A)} {old : Rc (Trie K V) A} (a : HasChild eq k h bits d place v rcs old) {n : Trie K V} (same : n ≡ old.value) where
  pub child_is : IsChild eq k h v n
  child_is = subst (λ w. IsChild eq k h v w) (sym same) a.child

  pub child_hash_left : {hash_left : ℕ} → hash_left ≡ h / 2 ^ (v.depth * v.bits) → hash_left / 2 ^ bits ≡ h / 2 ^ (n.depth * n.bits)
  child_hash_left {hash_left} r =
      let depth_is = ap (λ (w : Trie K V). w.depth) a.opened.is in
      let bits_is = ap (λ (w : Trie K V). w.bits) a.opened.is in
      rw (child_is.lower, child_is.bits_same, depth_is, bits_is) (hash_left_next bits d h hash_left (hash_left_is a.opened h r))

  pub child_levels : (level_count n.bits - n.depth) + 1 ≤ level_count v.bits - v.depth
  child_levels = let c = child_is in omega (arith, c.lower, c.inside, ap level_count c.bits_same)
