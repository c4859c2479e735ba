-- Nodes whose entries go into one.
use Rattle.rpds_hash_trie.proofs.Words.{◌≡◌, ℕ, suc, ◌+◌, ◌<◌, ◌≤◌, Bool, true, false, List, [], ◌∷◌, ◌++◌, Some, None, ◌-◌, ◌^◌, length, length-append, AllAgree}
use Rattle.rpds_hash_trie.proofs.Words.{agree, refl, sym, ap, ◌∙◌, subst, arith, Option, slice_get, get_or, take, drop, map, zero, is_some, false≢true, ◌⊎◌, inl}
use Rattle.rpds_hash_trie.proofs.Words.{inr, Rc, IsEquivalence, IsSound, digit, seen, item_at, put_at, Stored, Trie, flat, first_item, hashes_in, trie_of, Kind}
use Rattle.rpds_hash_trie.proofs.Words.{IsBranch}
use Rattle.std.specs.Prelude.{IfSome}
use Rattle.rpds_hash_trie.specs.HashTrie.{level_count}
use Rattle.rpds_hash_trie.specs.HashUnion.{AllOnce, AreSameLeaves, CanUnite, IsUnited, node_or, put_or}
use Rattle.rpds_hash_trie.proofs.Digits.{level_count_le}
use Rattle.rpds_hash_trie.proofs.Flat.{agree_append, agree_top}
use Rattle.rpds_hash_trie.proofs.United.{each_either, united_on}
use Rattle.rpds_hash_trie.proofs.UnitedChildren.{IsUniting, new_child, can_child, same_place, held, same_children, same_leaf, both_children}
use Rattle.rpds_hash_trie.specs.declared.node.Kind.TheVariants as the

module _ {K V A : Type 0} where
  depth_seen : (bits d : ℕ) (kind : Kind K V A) → (trie_of bits d kind).depth ≡ d
  depth_seen bits d (the.Branch cs) = refl
  depth_seen bits d (the.Leaf e) = refl
  depth_seen bits d (the.Collision rc) = refl

  pub depth_within : (bits d : ℕ) (kind : Kind K V A) {v : Trie K V} → trie_of bits d kind ≡ v → v.depth ≤ level_count v.bits → d ≤ 64
  depth_within bits d kind {v} is deep = omega (arith, deep, level_count_le v.bits, ap (λ (t : Trie K V). t.depth) is, depth_seen bits d kind)

module _ {K V A : Type 0} where
  -- the first entry of a branch is that of its first child
  pub first_below : (rcs : List (ℕ × Rc (Trie K V) A)) (child : Rc (Trie K V) A) (h : ℕ) → first_item rcs ≡ Some child
      → slice_get (hashes_in child.value.entries) 0 ≡ Some h → slice_get (hashes_in (flat (seen rcs))) 0 ≡ Some h
  first_below [] child h first is = cc
  first_below (c ∷ cs) child h first is =
      let same : c.1 ≡ child = cc in
      go c.1.value.entries (ap (λ (r : Rc (Trie K V) A). slice_get (hashes_in r.value.entries) 0) same ∙ is)
    where
      go : (xs : List (Stored K V)) → slice_get (hashes_in xs) 0 ≡ Some h → slice_get (hashes_in (xs ++ flat (seen cs))) 0 ≡ Some h
      go [] is = cc
      go (x ∷ xs) is = is

  pub some_first : (bits d : ℕ) (rcs : List (ℕ × Rc (Trie K V) A)) → IsBranch bits d (seen rcs) → first_item rcs ≡ None → ⊥
  some_first bits d [] b none = let s : 2 ≤ 0 = b.several in absurd (omega arith)
  some_first bits d (c ∷ cs) b none = cc

module _ {K V : Type 0} where
  -- the entry whose hash comes first
  pub record IsFirst (h : ℕ) (xs : List (Stored K V)) : Type 0 where
    pub entry : Stored K V
    pub rest : List (Stored K V)
    pub is : xs ≡ entry ∷ rest
    pub hash : entry.0 ≡ h

  pub first_of : (h : ℕ) (xs : List (Stored K V)) → slice_get (hashes_in xs) 0 ≡ Some h → IsFirst h xs
  first_of h [] is = cc
  first_of h (x ∷ xs) is = let same : x.0 ≡ h = cc in record { entry = x; rest = xs; is = refl; hash = same }

-- the next child, at its place
module _ {K V : Type 0} {eq : K → K → Bool} (law : IsEquivalence eq) {bits d root : ℕ} {cs : List (ℕ × Trie K V)} {all : List (Stored K V)}
    {now : List (ℕ × Trie K V)} {e : Trie K V} {rest : List (Trie K V)} {old common : ℕ} (u : IsUniting eq bits d root cs all now (e ∷ rest) old common)
    {h place : ℕ} (first : IsFirst h e.entries) (at : place ≡ digit (2 ^ bits) d h) where
  p_is : place ≡ digit (2 ^ bits) d first.entry.0
  p_is = at ∙ ap (digit (2 ^ bits) d) (sym first.hash)

  pub next_new : (w : Trie K V) → w ≡ e → item_at place now ≡ None → IsUniting eq bits d root cs all (put_at place w now) rest old common
  next_new w is none = rw (is, p_is) (new_child law u first.entry first.rest first.is (sym (ap (λ p. item_at p now) p_is) ∙ none))

  module _ (c : Trie K V) (there : item_at place now ≡ Some c) where
    there_too : item_at (digit (2 ^ bits) d first.entry.0) now ≡ Some c
    there_too = sym (ap (λ p. item_at p now) p_is) ∙ there

    pub next_can : old + length all < 2 ^ 64 → CanUnite eq c e.entries common
    next_can = can_child law u first.entry first.rest first.is c there_too

    pub next_same_place : (e.bits ≡ c.bits) × (e.depth ≡ c.depth)
    next_same_place = same_place law u first.entry first.rest first.is c there_too

    pub next_falls : d < level_count bits → (level_count c.bits - c.depth) + 1 ≤ level_count bits - d
    next_falls left = let at = held law u first.entry first.rest first.is c there_too in omega (arith, left, at.lower, ap level_count at.same_bits)

    pub next_leaf : AreSameLeaves eq c.entries e.entries → IsUniting eq bits d root cs all now rest old (common + 1)
    next_leaf s = same_children law u first.entry first.rest first.is c there_too (common + 1) (same_leaf law u first.entry first.rest first.is c there_too s)

    pub next_both : {A : Type 0} (more : Option (Rc (Trie K V) A)) (common' : ℕ) → IsUnited eq c e.entries (node_or c more) common common'
        → IfSome more (λ n. IsSound n.value) → IsUniting eq bits d root cs all (put_or place more now) rest old common'
    next_both None common' is sound = same_children law u first.entry first.rest first.is c there_too common' is
    next_both (Some n) common' is sound = rw p_is (both_children law u first.entry first.rest first.is c there_too n.value common' is sound)

-- entries that go in one after another
module _ {K V : Type 0} {eq : K → K → Bool} (law : IsEquivalence eq) (v w : Trie K V) (all done rest : List (Stored K V)) (x : Stored K V) (n m : ℕ)
    (can : CanUnite eq v all n) (is : all ≡ done ++ x ∷ rest) (united : IsUnited eq v done w n m) where
  pub can_more : CanUnite eq w (x ∷ []) m
  can_more =
      let agrees = agree_append v.bits v.depth can.with_root done (x ∷ rest) (subst (AllAgree v.bits v.depth can.with_root) is can.alike_others) in
      let room = can.room in
      let most = united.most in
      record {
        with_root = can.with_root;
        alike = rw (united.bits, united.depth) (each_either law (λ h. agree (2 ^ v.bits) v.depth h can.with_root) v.entries done w.entries united.found_in
            can.alike agrees.0);
        alike_others = rw (united.bits, united.depth) (agrees.1.0, tt);
        once = united.once;
        once_others = (λ k h. omega arith);
        room = omega (arith, room, most, ap length is, length-append done (x ∷ rest));
      }

-- one entry more, of which a node was made where it is new
pub one_more : {K V A : Type 0} {eq : K → K → Bool} (law : IsEquivalence eq) (v now : Trie K V) (before next more : Option (Rc (Trie K V) A))
    (done : List (Stored K V)) (x : Stored K V) (l m n : ℕ) → now ≡ node_or v before → IsUnited eq v done (node_or v before) l m
    → IsUnited eq now (x ∷ []) (node_or now next) m n
    → ((is_some next ≡ true) × (more ≡ next)) ⊎ ((is_some next ≡ false) × (more ≡ before)) → IsUnited eq v (done ++ x ∷ []) (node_or v more) l n
one_more {K} {V} {A} {eq} law v now before next more done x l m n is first second told = go next second told
  where
    go : (next : Option (Rc (Trie K V) A)) → IsUnited eq now (x ∷ []) (node_or now next) m n → ((is_some next ≡ true) × (more ≡ next))
        ⊎ ((is_some next ≡ false) × (more ≡ before)) → IsUnited eq v (done ++ x ∷ []) (node_or v more) l n
    go None second (inl t) = absurd (false≢true t.0)
    go None second (inr t) = rw t.1 (united_on law v (node_or v before) (node_or v before) done (x ∷ []) l m n first
        (subst (λ w. IsUnited eq w (x ∷ []) w m n) is second))
    go (Some r) second (inl t) = rw t.1 (united_on law v (node_or v before) r.value done (x ∷ []) l m n first
        (subst (λ w. IsUnited eq w (x ∷ []) r.value m n) is second))
    go (Some r) second (inr t) = absurd (false≢true (sym t.0))

-- a list, cut around one of its items
pub cut_at : {X Y : Type 0} (f : X → Y) (xs : List X) (i : ℕ) (x : X) → i < length xs → x ≡ get_or xs i x
    → map f xs ≡ map f (take i xs) ++ f x ∷ map f (drop (suc i) xs)
cut_at f [] i x lt is = absurd (omega arith)
cut_at f (y ∷ xs) zero x lt is = rw is refl
cut_at f (y ∷ xs) (suc i) x lt is = ap (λ l. f y ∷ l) (cut_at f xs i x (omega arith) is)

-- the entries of two roots, whose hashes share nothing
pub top_can : {K V : Type 0} {eq : K → K → Bool} (v w : Trie K V) (n : ℕ) → v.depth ≡ 0 → AllOnce eq v.entries → AllOnce eq w.entries
    → n + length w.entries < 2 ^ 64 → CanUnite eq v w.entries n
top_can v w n top once once_others room = record {
  with_root = 0;
  alike = agree_top v.bits v.depth 0 v.entries top;
  alike_others = agree_top v.bits v.depth 0 w.entries top;
  once = once;
  once_others = once_others;
  room = room;
}
