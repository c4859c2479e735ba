-- What a removal leaves of a node.
use Rattle.rpds_hash_trie.proofs.Words.{◌≡◌, ℕ, suc, ◌+◌, ◌<◌, ◌≤◌, Bool, true, false, List, [], ◌∷◌, Some, None, length, map, refl, sym, ap, ◌∙◌, subst, arith, length-append, ◌^◌, Rc, IsSome, append-nil, item_at, put_at, without_at, first_item, seen, agree, digit, Stored, Trie, flat, AllChildren, IsChildAt, IsSound, IsBranch, IsLoose, IsCollision, AllAgree, AllHash, unmatched, matches, found, branch_of, leaf_of, collision_of, stored, shown, Collision, EntryWithHash, remove, length-map, nat_tests, eqb, IsLeft}
use Rattle.std.specs.Prelude.{slice_index_or}
use Rattle.rpds_hash_trie.proofs.Flat.{each_without}
use Rattle.rpds_hash_trie.proofs.Children.{child_at, put_children, put_less, taken_less}
use Rattle.rpds_hash_trie.proofs.Child.{HasChild, child_is}

-- children that hold these entries
pub record IsLess {K V : Type 0} (bits d : ℕ) (cs : List (ℕ × Trie K V)) (xs : List (Stored K V)) : Type 0 where
  pub loose : IsLoose bits d cs
  pub entries : flat cs ≡ xs

-- children that are left of the node v, which had an entry that passes the test
pub record IsLeftOf {K V : Type 0} (t : Stored K V → Bool) (v : Trie K V) (bits d : ℕ) (cs : List (ℕ × Trie K V)) : Type 0 where
  pub there : IsSome (found t v.entries)
  pub less : IsLess bits d cs (unmatched t v.entries)

module _ {K S V : Type 0} (eq : K → S → Bool) (k : S) (h bits d : ℕ) (cs : List (ℕ × Trie K V)) (b : IsBranch bits d cs) (once : length (flat cs) ≤ length (unmatched (matches eq k h) (flat cs)) + 1) where
  abbrev t : Stored K V → Bool
  t = matches eq k h

  loose_of : (ds : List (ℕ × Trie K V)) → AllChildren bits d 0 ds → flat ds ≡ unmatched t (flat cs) → IsLess bits d ds (unmatched t (flat cs))
  loose_of ds children is =
      let several : 2 ≤ length (flat cs) = b.several in
      let many : length (flat ds) ≡ length (unmatched t (flat cs)) = ap length is in
      let rest : AllAgree bits d b.alike.with_root (flat ds) = subst (AllAgree bits d b.alike.with_root) (sym is) (each_without (λ e. agree (2 ^ bits) d e.0 b.alike.with_root) t (flat cs) b.alike.all) in
      record { loose = record { bits_in = b.bits_in; left = b.left; some = omega arith; children = children; alike = record { with_root = b.alike.with_root; all = rest } }; entries = is }

  less_without : (old : Trie K V) → item_at (digit (2 ^ bits) d h) cs ≡ Some old → unmatched t old.entries ≡ [] → IsLess bits d (without_at (digit (2 ^ bits) d h) cs) (unmatched t (flat cs))
  less_without old i gone = let r = taken_less eq k h bits d (digit (2 ^ bits) d h) refl 0 cs old b.children i gone in loose_of (without_at (digit (2 ^ bits) d h) cs) r.1 r.0

  less_with : (old c : Trie K V) → item_at (digit (2 ^ bits) d h) cs ≡ Some old → c ≡ record old { entries = unmatched t old.entries } → IsSound c → IsLess bits d (put_at (digit (2 ^ bits) d h) c cs) (unmatched t (flat cs))
  less_with old c i is sound =
      let child : IsChildAt bits d (digit (2 ^ bits) d h) old = child_at eq k h bits d (digit (2 ^ bits) d h) refl 0 cs old b.children i in
      let r = put_less eq k h bits d (digit (2 ^ bits) d h) refl c 0 cs old b.children i (ap (λ (w : Trie K V). w.entries) is) in
      let low : 0 ≤ digit (2 ^ bits) d h = omega arith in
      let new : IsChildAt bits d (digit (2 ^ bits) d h) c = record { same_bits = ap (λ (w : Trie K V). w.bits) is ∙ child.same_bits; lower = ap (λ (w : Trie K V). w.depth) is ∙ child.lower; digits = rw is (each_without (λ e. digit (2 ^ bits) d e.0 ≡ digit (2 ^ bits) d h) t old.entries child.digits); sound = sound } in
      loose_of (put_at (digit (2 ^ bits) d h) c cs) (put_children eq k h bits d (digit (2 ^ bits) d h) refl c 0 cs b.children low new) r.0

module _ {K S V A : Type 0} {eq : K → S → Bool} {k : S} {h bits d place : ℕ} {v : Trie K V} {rcs : List (ℕ × Rc (Trie K V) A)} {old : Rc (Trie K V) A} (a : HasChild eq k h bits d place v rcs old) where
  module _ (once : length v.entries ≤ length (unmatched (matches eq k h) v.entries) + 1) where
    opened : length (flat (seen rcs)) ≤ length (unmatched (matches eq k h) (flat (seen rcs))) + 1
    opened = subst (λ (x : Trie K V). length x.entries ≤ length (unmatched (matches eq k h) x.entries) + 1) a.opened.is once

    pub less_children : unmatched (matches eq k h) old.value.entries ≡ [] → IsLess bits d (without_at place (seen rcs)) (unmatched (matches eq k h) v.entries)
    less_children gone = rw (a.place_is, a.opened.is) (less_without eq k h bits d (seen rcs) a.opened.sound opened old.value a.there gone)

    pub changed_children : (c : Trie K V) → c ≡ record old.value { entries = unmatched (matches eq k h) old.value.entries } → IsSound c → IsLess bits d (put_at place c (seen rcs)) (unmatched (matches eq k h) v.entries)
    changed_children c is sound = rw (a.place_is, a.opened.is) (less_with eq k h bits d (seen rcs) a.opened.sound opened old.value c a.there is sound)

    -- what is left of the branch where the child n was taken out, or put back smaller
    module _ {n : Trie K V} (same : n ≡ old.value) where
      pub empty_below : IsSome (found (matches eq k h) n.entries) × (unmatched (matches eq k h) n.entries ≡ []) → IsLeftOf (matches eq k h) v bits d (without_at place (seen rcs))
      empty_below gone = record { there = subst IsSome (sym (child_is a same).found_in) gone.0; less = less_children (ap (λ (x : Trie K V). unmatched (matches eq k h) x.entries) (sym same) ∙ gone.1) }

      pub smaller_below : {c : Trie K V} → IsLeft (matches eq k h) n c → IsSound c → IsLeftOf (matches eq k h) v bits d (put_at place c (seen rcs))
      smaller_below {c} left sound =
          let is : c ≡ record old.value { entries = unmatched (matches eq k h) old.value.entries } = left.is ∙ ap {A = Trie K V} {B = Trie K V} (λ x. record x { entries = unmatched (matches eq k h) x.entries }) same in
          record { there = subst IsSome (sym (child_is a same).found_in) left.there; less = changed_children c is sound }

  pub left_is : {cs : List (ℕ × Trie K V)} (n : Rc (Trie K V) A) → IsLeftOf (matches eq k h) v bits d cs → n.value ≡ branch_of bits d cs → IsLeft (matches eq k h) v n.value
  left_is n l is = record { there = l.there; is = rw (is, l.less.entries, a.opened.is) refl }

  pub there_some : IsSome (item_at place rcs)
  there_some = rw a.held refl

module _ {K V : Type 0} where
  pub many_children : (bits d low : ℕ) (cs : List (ℕ × Trie K V)) → AllChildren bits d low cs → length cs ≤ length (flat cs)
  many_children bits d low [] a = omega arith
  many_children bits d low (c ∷ cs) a = let s : 0 < length c.1.entries = a.1.0.sound.some in omega (arith, many_children bits d (suc c.0) cs a.1.1, length-append c.1.entries (flat cs))

pub length_seen : {X A : Type 0} (rcs : List (ℕ × Rc X A)) → length (seen rcs) ≡ length rcs
length_seen [] = refl
length_seen (c ∷ cs) = ap (λ n. suc n) (length_seen cs)

module _ {K V A : Type 0} (bits d : ℕ) (rcs : List (ℕ × Rc (Trie K V) A)) (l : IsLoose bits d (seen rcs)) where
  -- two children or more
  pub not_alone : (length rcs ≡ 1 → ⊥) → 2 ≤ length (flat (seen rcs))
  not_alone ne = go rcs l ne
    where
      go : (cs : List (ℕ × Rc (Trie K V) A)) → IsLoose bits d (seen cs) → (length cs ≡ 1 → ⊥) → 2 ≤ length (flat (seen cs))
      go [] l ne = let s : 0 < 0 = l.some in absurd (omega arith)
      go (a ∷ []) l ne = absurd (ne refl)
      go (a ∷ b ∷ cs) l ne = omega (arith, many_children bits d 0 (seen (a ∷ b ∷ cs)) l.children)

  -- one child
  pub only_one : (only : Rc (Trie K V) A) → length rcs ≡ 1 → first_item rcs ≡ Some only → flat (seen rcs) ≡ only.value.entries
  only_one only e f = go rcs e f
    where
      go : (cs : List (ℕ × Rc (Trie K V) A)) → length cs ≡ 1 → first_item cs ≡ Some only → flat (seen cs) ≡ only.value.entries
      go [] e f = absurd (omega arith)
      go (a ∷ []) e f = let same : a.1 ≡ only = cc in append-nil a.1.value.entries ∙ ap (λ (x : Rc (Trie K V) A). x.value.entries) same
      go (a ∷ b ∷ cs) e f = absurd (omega arith)

  pub none_first : length rcs ≡ 1 → first_item rcs ≡ None → ⊥
  none_first e f = go rcs e f
    where
      go : (cs : List (ℕ × Rc (Trie K V) A)) → length cs ≡ 1 → first_item cs ≡ None → ⊥
      go [] e f = absurd (omega arith)
      go (a ∷ cs) e f = cc

-- as many as before are kept only where none is found, and then all
pub fewer_kept : {K V : Type 0} (t : Stored K V → Bool) (xs : List (Stored K V)) → length (unmatched t xs) ≤ length xs
fewer_kept t [] = omega arith
fewer_kept t (x ∷ xs) = grind (arith, fewer_kept t xs)

pub all_kept : {K V : Type 0} (t : Stored K V → Bool) (xs : List (Stored K V)) → length xs ≤ length (unmatched t xs) → found t xs ≡ None
all_kept t [] h = refl
all_kept t (x ∷ xs) h = grind (arith, all_kept t xs, fewer_kept t xs)

pub none_kept : {K V : Type 0} (t : Stored K V → Bool) (xs : List (Stored K V)) → found t xs ≡ None → unmatched t xs ≡ xs
none_kept t [] e = refl
none_kept t (x ∷ xs) e = grind (arith, none_kept t xs)

pub some_gone : {K V : Type 0} (t : Stored K V → Bool) (xs : List (Stored K V)) → length (unmatched t xs) < length xs → IsSome (found t xs)
some_gone t [] h = absurd (omega arith)
some_gone t (x ∷ xs) h = grind (arith, some_gone t xs)

-- the first of some, and the others
cut_first : {X : Type 0} (xs ys : List X) (r : X) → 0 < length xs → r ≡ slice_index_or xs 0 r → ys ≡ remove xs 0 → xs ≡ r ∷ ys
cut_first [] ys r some e f = absurd (omega arith)
cut_first (x ∷ xs) ys r some e f = rw (f, e) refl

-- the entries left are those of the collision old that don't pass the test, which one at most passes
module _ {K V A : Type 0} (t : Stored K V → Bool) (old : Collision K V A) (left : List (EntryWithHash K V A)) (kept : unmatched t (shown old) ≡ map stored left) where
  lengths : (length (unmatched t (shown old)) ≡ length left) × (length (map stored old.others.items) ≡ length old.others.items)
  lengths = (ap length kept ∙ length-map left stored, length-map old.others.items stored)

  pub collision_none : length old.others.items < length left → found t (shown old) ≡ None
  collision_none lt = all_kept t (shown old) (let l = lengths in omega (arith, l.0, l.1))

  pub left_some : 1 ≤ length (map stored old.others.items) → length (shown old) ≤ length (unmatched t (shown old)) + 1 → 0 < length left
  left_some some once = let l = lengths in omega (arith, l.0, l.1)

  left_there : length left ≤ length old.others.items → IsSome (found t (shown old))
  left_there few = some_gone t (shown old) (let l = lengths in omega (arith, l.0, l.1))

-- what is left of a collision: the new front, and the others
pub record IsRest {K V A : Type 0} (t : Stored K V → Bool) (bits d : ℕ) (old : Collision K V A) (front : EntryWithHash K V A) (later : List (EntryWithHash K V A)) : Type 0 where
  pub sound : IsCollision bits d old.front.key_hash (map stored old.others.items)
  pub there : IsSome (found t (shown old))
  pub kept : unmatched t (shown old) ≡ stored front ∷ map stored later

module _ {K V A : Type 0} {bits d : ℕ} {front : EntryWithHash K V A} {later : List (EntryWithHash K V A)} where
  pub rest_of : (t : Stored K V → Bool) (old : Collision K V A) (left : List (EntryWithHash K V A)) → IsCollision bits d old.front.key_hash (map stored old.others.items)
      → length (shown old) ≤ length (unmatched t (shown old)) + 1 → unmatched t (shown old) ≡ map stored left → length left ≤ length old.others.items
      → front ≡ slice_index_or left 0 front → later ≡ remove left 0 → IsRest t bits d old front later
  rest_of t old left sound once kept few is cut =
      record { sound = sound; there = left_there t old left kept few; kept = kept ∙ ap (map stored) (cut_first left later front (left_some t old left kept sound.several once) is cut) }

  module _ {t : Stored K V → Bool} {old : Collision K V A} (r : IsRest t bits d old front later) where
    pub rest_sound : 0 < length later → IsCollision bits d front.key_hash (map stored later)
    rest_sound some =
        let all : AllHash old.front.key_hash (shown old) = (refl, r.sound.same) in
        let rest : AllHash old.front.key_hash (stored front ∷ map stored later) = subst (AllHash old.front.key_hash) r.kept (each_without (λ e. e.0 ≡ old.front.key_hash) t (shown old) all) in
        let l : length (map stored later) ≡ length later = length-map later stored in
        record { bits_in = r.sound.bits_in; full = r.sound.full; several = omega arith; same = subst (λ h. AllHash h (map stored later)) (sym rest.0) rest.1 }

    pub rest_leaf : (n : Rc (Trie K V) A) → later ≡ [] → n.value ≡ leaf_of bits d (stored front) → IsLeft t (collision_of bits d (stored old.front) (map stored old.others.items)) n.value
    rest_leaf n empty is = record { there = r.there; is = rw (is, r.kept, empty) refl }

    pub rest_collision : (n : Rc (Trie K V) A) → n.value ≡ collision_of bits d (stored front) (map stored later) → IsLeft t (collision_of bits d (stored old.front) (map stored old.others.items)) n.value
    rest_collision n is = record { there = r.there; is = rw (is, r.kept) refl }

pub some_from : (n : ℕ) (b : Bool) → b ≡ eqb n 0 → b ≡ false → 0 < n
some_from n b e h = grind (arith, nat_tests)

pub zero_from : (n : ℕ) (b : Bool) → b ≡ eqb n 0 → b ≡ true → n ≡ 0
zero_from n b e h = grind (arith, nat_tests)
