-- The order of a walk.
use Rattle.rpds_hash_trie.proofs.Words.{◌≡◌, ℕ, suc, ◌<◌, ◌≤◌, List, [], ◌∷◌, ◌++◌, map, refl, sym, ◌∙◌, subst, arith, inl, inr, ◌^◌, seen, Kind, Branch, Leaf, FollowDigits, agree, digit, Stored, Trie, flat, AllChildren, IsChildAt, AllDigit, AllHash, AllAgree, IsSound, IsBranch, hashes_in, stored, trie_of, branch_of, leaf_of, IsNode}
use Rattle.rpds_hash_trie.specs.declared.node.Kind.TheVariants.{Collision}
use Rattle.rpds_hash_trie.specs.Digits.{AllFrom}
use Rattle.rpds_hash_trie.specs.HashTrie.{level_count, IsLeaf}
use Rattle.rpds_hash_trie.proofs.Digits.{level_count_is}
use Rattle.rpds_hash_trie.proofs.Flat.{agree_append, agree_hash}

module _ {K V : Type 0} (bits : ℕ) where
  pub after_append : (g : ℕ) (xs ys : List (Stored K V)) → AllFrom (2 ^ bits) g (hashes_in xs) → AllFrom (2 ^ bits) g (hashes_in ys) → AllFrom (2 ^ bits) g (hashes_in (xs ++ ys))
  after_append g [] ys a b = b
  after_append g (x ∷ xs) ys a b = (a.0, after_append g xs ys a.1 b)

  -- each of the first is before each of the others
  abbrev Across : List (Stored K V) → List (Stored K V) → Type 0
  Across [] ys = Unit {0}
  Across (x ∷ xs) ys = AllFrom (2 ^ bits) x.0 (hashes_in ys) × Across xs ys

  order_append : (xs ys : List (Stored K V)) → FollowDigits (2 ^ bits) (hashes_in xs) → FollowDigits (2 ^ bits) (hashes_in ys) → Across xs ys → FollowDigits (2 ^ bits) (hashes_in (xs ++ ys))
  order_append [] ys a b c = b
  order_append (x ∷ xs) ys a b c = (after_append x.0 xs ys a.0 c.0, order_append xs ys a.1 b c.1)

  pub hash_order : (h : ℕ) (xs : List (Stored K V)) → AllHash h xs → FollowDigits (2 ^ bits) (hashes_in xs)
  hash_order h [] a = tt
  hash_order h (x ∷ xs) a = (same x.0 xs a.0 a.1, hash_order h xs a.1)
    where
      same : (g : ℕ) (ys : List (Stored K V)) → g ≡ h → AllHash h ys → AllFrom (2 ^ bits) g (hashes_in ys)
      same g [] e b = tt
      same g (y ∷ ys) e b = (inl (b.0 ∙ sym e), same g ys e b.1)

  module _ (d root : ℕ) (left : d < level_count bits) where
    after_row : (g p q : ℕ) (ys : List (Stored K V)) → agree (2 ^ bits) d g root → digit (2 ^ bits) d g ≡ p → p < q → AllAgree bits d root ys → AllDigit bits d q ys → AllFrom (2 ^ bits) g (hashes_in ys)
    after_row g p q [] a e lt b f = tt
    after_row g p q (y ∷ ys) a e lt b f = (inr (record { place = d; inside = subst (λ n. d < n) (level_count_is bits) left; same = a ∙ sym b.0; less = rw (e, f.0) lt }), after_row g p q ys a e lt b.1 f.1)

    after_children : (g p low : ℕ) (cs : List (ℕ × Trie K V)) → agree (2 ^ bits) d g root → digit (2 ^ bits) d g ≡ p → p < low → AllAgree bits d root (flat cs) → AllChildren bits d low cs → AllFrom (2 ^ bits) g (hashes_in (flat cs))
    after_children g p low [] a e lt b k = tt
    after_children g p low (c ∷ cs) a e lt b k =
        let both = agree_append bits d root c.1.entries (flat cs) b in
        let le : low ≤ c.0 = k.0 in
        after_append g c.1.entries (flat cs) (after_row g p c.0 c.1.entries a e (omega arith) both.0 k.1.0.digits) (after_children g p (suc c.0) cs a e (omega arith) both.1 k.1.1)

    across_children : (p : ℕ) (xs : List (Stored K V)) (cs : List (ℕ × Trie K V)) → AllAgree bits d root xs → AllDigit bits d p xs → AllAgree bits d root (flat cs) → AllChildren bits d (suc p) cs → Across xs (flat cs)
    across_children p [] cs a f b k = tt
    across_children p (x ∷ xs) cs a f b k = (after_children x.0 p (suc p) cs a.0 f.0 (omega arith) b k, across_children p xs cs a.1 f.1 b k)

    pub children_order : (low : ℕ) (cs : List (ℕ × Trie K V)) → AllAgree bits d root (flat cs) → AllChildren bits d low cs → FollowDigits (2 ^ bits) (hashes_in (flat cs))
    children_order low [] b k = tt
    children_order low (c ∷ cs) b k =
        let both = agree_append bits d root c.1.entries (flat cs) b in
        let child : IsChildAt bits d c.0 c.1 = k.1.0 in
        order_append c.1.entries (flat cs) (subst (λ n. FollowDigits (2 ^ n) (hashes_in c.1.entries)) child.same_bits child.sound.in_order) (children_order (suc c.0) cs both.1 k.1.1) (across_children c.0 c.1.entries cs both.0 child.digits both.1 k.1.1)

module _ {K V : Type 0} where
  pub branch_sound : (bits d : ℕ) (cs : List (ℕ × Trie K V)) → IsBranch bits d cs → IsSound (branch_of bits d cs)
  branch_sound bits d cs b = record {
    bits_in = b.bits_in;
    deep = let l = b.left in omega arith;
    some = let s = b.several in omega arith;
    alike = b.alike;
    in_order = children_order bits d b.alike.with_root b.left 0 cs b.alike.all b.children;
  }

  pub leaf_sound : (bits d : ℕ) (e : Stored K V) → IsLeaf bits d → IsSound (leaf_of bits d e)
  leaf_sound bits d e b = record { bits_in = b.bits_in; deep = b.deep; some = omega arith; alike = record { with_root = e.0; all = (refl, tt) }; in_order = (tt, tt) }

module _ {K V A : Type 0} where
  pub sound_of : (bits d : ℕ) (k : Kind K V A) → IsNode bits d k → IsSound (trie_of bits d k)
  sound_of bits d (Branch cs) b = branch_sound bits d (seen cs) b
  sound_of bits d (Leaf e) b = leaf_sound bits d (stored e) b
  sound_of bits d (Collision rc) b =
      let h : ℕ = rc.value.front.key_hash in
      let xs : List (Stored K V) = stored rc.value.front ∷ map stored rc.value.others.items in
      let all : AllHash h xs = (refl, b.same) in
      record { bits_in = b.bits_in; deep = let f : d ≡ level_count bits = b.full in omega arith; some = omega arith; alike = record { with_root = h; all = agree_hash bits d h xs all }; in_order = hash_order bits h xs all }
