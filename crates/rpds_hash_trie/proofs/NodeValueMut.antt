-- A write to a lent value, seen from the nodes above.
use Rattle.rpds_hash_trie.proofs.Words.{nat_tests, MutBor, Result, ◌≡◌, ℕ, zero, suc, ◌+◌, ◌-◌, ◌<◌, ◌≤◌, Bool, true, false, List, [], ◌∷◌, ◌++◌, Some, None, length, map, refl, sym, ap, ◌∙◌, subst, arith, ◌⊎◌, inl, inr, ◌^◌, Option, option_map, Rc, item_at, put_at, seen, FollowDigits, agree, digit, Stored, Trie, flat, AllChildren, IsChildAt, IsSound, IsBranch, AllAgree, matches, found, hashes_in, branch_of, stored, valued, with_value, value_of, node_with, length-map, unmatched, shown, index_of, EntryWithHash, Collision, get_or, set, AllByRecursion}
use Rattle.rpds_hash_trie.specs.HashTrie.{level_count}
use Rattle.rpds_hash_trie.specs.HashLent.{Written, IsReady, IsSeenAs}
use Rattle.rpds_hash_trie.proofs.Flat.{none_in, agree_top}
use Rattle.rpds_hash_trie.proofs.Children.{child_at, put_children, above_none, above_found}
use Rattle.rpds_hash_trie.proofs.NodeInsert.{put_seen}
use Rattle.rpds_hash_trie.proofs.Child.{HasChild, HasNoChild}
use Rattle.rpds_hash_trie.proofs.Collisions.{index_none}
use Rattle.rpds_core.specs.ValueLends.{Tells, with_reason}
use Rattle.rpds_core.specs.declared.lend.ValueMutError.{ValueMutError}
use Rattle.rpds_core.specs.declared.lend.ValueMutError.TheVariants.{NoMemory}

-- what a lower call tells, which can want memory alone
pub told_higher : {V E : Type 0} {whole part : Option V} → whole ≡ part → (why : ValueMutError) → why ≡ NoMemory → (r : Result (MutBor V) E) → Tells part (with_reason NoMemory r) → Tells whole (with_reason why r)
told_higher {V} {E} {whole} e why memory r h = subst (λ w. Tells whole (with_reason w r)) (sym memory) (subst (λ f. Tells f (with_reason NoMemory r)) (sym e) h)

-- what was written, seen from further out
pub outward : {Ok P Q P' Q' : Type 0} → Written Ok P Q → (P → P') → (Q → Q') → Written Ok P' Q'
outward q put kept = (λ ok. put (q.0 ok), elim q.1 [ inl z ↦ inl (put z) | inr z ↦ inr (kept z) ])

-- only the value of one entry differs: what is said of hashes stays
module _ {K V : Type 0} (t : Stored K V → Bool) (v : V) where
  pub length_with : (xs : List (Stored K V)) → length (with_value t v xs) ≡ length xs
  length_with [] = refl
  length_with (x ∷ xs) = grind (arith, length_with xs)

  -- what is asked of each entry, whatever its value
  pub each_with : (P : Stored K V → Type 0) → ((e : Stored K V) → P e → P (valued v e)) → (xs : List (Stored K V)) → AllByRecursion P xs → AllByRecursion P (with_value t v xs)
  each_with P same [] a = tt
  each_with P same (x ∷ xs) a = grind (arith, each_with P same xs a.1)

  hashes_with : (xs : List (Stored K V)) → hashes_in (with_value t v xs) ≡ hashes_in xs
  hashes_with [] = refl
  hashes_with (x ∷ xs) = grind (arith, hashes_with xs)

  sound_with : (n : Trie K V) → IsSound n → IsSound (node_with t v n)
  sound_with n s =
      let some : 0 < length n.entries = s.some in
      let l = length_with n.entries in
      record {
        bits_in = s.bits_in;
        deep = s.deep;
        some = omega arith;
        alike = record { with_root = s.alike.with_root; all = each_with (λ e. agree (2 ^ n.bits) n.depth e.0 s.alike.with_root) (λ e q. q) n.entries s.alike.all };
        in_order = subst (FollowDigits (2 ^ n.bits)) (sym (hashes_with n.entries)) s.in_order;
      }

  with_none : (xs : List (Stored K V)) → found t xs ≡ None → with_value t v xs ≡ xs
  with_none [] e = refl
  with_none (x ∷ xs) e = grind (arith, with_none xs)

  with_first : (xs ys : List (Stored K V)) → found t ys ≡ None → with_value t v (xs ++ ys) ≡ with_value t v xs ++ ys
  with_first [] ys e = with_none ys e
  with_first (x ∷ xs) ys e = grind (arith, with_first xs ys e)

  with_last : (xs ys : List (Stored K V)) → found t xs ≡ None → with_value t v (xs ++ ys) ≡ xs ++ with_value t v ys
  with_last [] ys e = refl
  with_last (x ∷ xs) ys e = grind (arith, with_last xs ys)

module _ {K S V : Type 0} (eq : K → S → Bool) (k : S) (h bits d p : ℕ) (dp : digit (2 ^ bits) d h ≡ p) where
  abbrev t : Stored K V → Bool
  t = matches eq k h

  -- a child put in its own place
  pub put_same : (low : ℕ) (cs : List (ℕ × Trie K V)) (old : Trie K V) → AllChildren bits d low cs → item_at p cs ≡ Some old → put_at p old cs ≡ cs
  put_same low [] old a i = cc
  put_same low (x ∷ xs) old a i = grind (arith, nat_tests, put_same (suc x.0) xs old a.1.1, above_none eq k h bits d p dp (suc x.0) xs a.1.1)

  -- a child with another value of the key, put in its own place
  put_valued : (v : V) (c : Trie K V) (low : ℕ) (cs : List (ℕ × Trie K V)) (old : Trie K V) → AllChildren bits d low cs → item_at p cs ≡ Some old → c.entries ≡ with_value t v old.entries
      → flat (put_at p c cs) ≡ with_value t v (flat cs)
  put_valued v c low [] old a i e = cc
  put_valued v c low (x ∷ xs) old a i e = grind (arith, nat_tests, put_valued v c (suc x.0) xs old a.1.1, with_first t v x.1.entries (flat xs), with_last t v x.1.entries (flat xs), above_none eq k h bits d p dp (suc x.0) xs a.1.1, above_found eq k h bits d p dp (suc x.0) xs a.1.1, none_in eq k h bits d x.0 x.1.entries a.1.0.digits)

pub stays_seen : {K V : Type 0} {bits d : ℕ} {cs : List (ℕ × Trie K V)} → IsBranch bits d cs → IsSeenAs bits d cs (branch_of bits d cs)
stays_seen b = record { is = refl; sound = b }

module _ {K S V A : Type 0} {eq : K → S → Bool} {k : S} {h bits d place : ℕ} {v : Trie K V} {rcs : List (ℕ × Rc (Trie K V) A)} {old : Rc (Trie K V) A} (a : HasChild eq k h bits d place v rcs old) where
  pub child_stays : (new : Rc (Trie K V) A) → new.value ≡ old.value → IsSeenAs bits d (seen (put_at place new rcs)) v
  child_stays new same =
      let kept : seen (put_at place new rcs) ≡ seen rcs = put_seen place new rcs ∙ ap (λ n. put_at place n (seen rcs)) same ∙ ap (λ q. put_at q old.value (seen rcs)) a.place_is ∙ put_same eq k h bits d (digit (2 ^ bits) d h) refl 0 (seen rcs) old.value a.opened.sound.children a.there in
      rw kept (record { is = sym a.opened.is; sound = a.opened.sound })

  valued_in : (w : V) (c : Trie K V) → c ≡ node_with (matches eq k h) w old.value → IsSeenAs bits d (put_at (digit (2 ^ bits) d h) c (seen rcs)) (node_with (matches eq k h) w v)
  valued_in w c is =
      let p : ℕ = digit (2 ^ bits) d h in
      let b : IsBranch bits d (seen rcs) = a.opened.sound in
      let child : IsChildAt bits d p old.value = child_at eq k h bits d p refl 0 (seen rcs) old.value b.children a.there in
      let same : flat (put_at p c (seen rcs)) ≡ with_value (matches eq k h) w (flat (seen rcs)) = put_valued eq k h bits d p refl w c 0 (seen rcs) old.value b.children a.there (ap (λ (x : Trie K V). x.entries) is) in
      let low : 0 ≤ p = omega arith in
      let new : IsChildAt bits d p c = rw is (record { same_bits = child.same_bits; lower = child.lower; digits = each_with (matches eq k h) w (λ e. digit (2 ^ bits) d e.0 ≡ p) (λ e q. q) old.value.entries child.digits; sound = sound_with (matches eq k h) w old.value child.sound }) in
      let l = length_with (matches eq k h) w (flat (seen rcs)) in
      let l' : length (flat (put_at p c (seen rcs))) ≡ length (with_value (matches eq k h) w (flat (seen rcs))) = ap length same in
      let several : 2 ≤ length (flat (seen rcs)) = b.several in
      let all : AllAgree bits d b.alike.with_root (flat (put_at p c (seen rcs))) = subst (AllAgree bits d b.alike.with_root) (sym same) (each_with (matches eq k h) w (λ e. agree (2 ^ bits) d e.0 b.alike.with_root) (λ e q. q) (flat (seen rcs)) b.alike.all) in
      record {
        is = rw (same, a.opened.is) refl;
        sound = record { bits_in = b.bits_in; left = b.left; several = omega arith; children = put_children eq k h bits d p refl c 0 (seen rcs) b.children low new; alike = record { with_root = b.alike.with_root; all = all } };
      }

  child_valued : (w : V) (new : Rc (Trie K V) A) → new.value ≡ node_with (matches eq k h) w old.value → IsSeenAs bits d (seen (put_at place new rcs)) (node_with (matches eq k h) w v)
  child_valued w new is = rw (put_seen place new rcs, a.place_is) (valued_in w new.value is)

  -- with the child made the node's own
  module _ {made : Trie K V} (same : made ≡ old.value) where
    pub child_ready : {kc : K → K → Type 0} {vc : V → V → Type 0} → IsReady eq kc vc v k h → IsReady eq kc vc made k h
    child_ready r = rw same (record { alike = a.child.alike r.alike; once = a.child.once r.once; keys = r.keys; values = r.values })

    pub child_lower : (level_count made.bits + 1 - made.depth) + 1 ≤ level_count v.bits + 1 - v.depth
    child_lower =
        let e : level_count made.bits ≡ level_count v.bits = ap (λ (x : Trie K V). level_count x.bits) same ∙ ap level_count a.child.bits_same in
        let l : made.depth ≡ suc v.depth = ap (λ (x : Trie K V). x.depth) same ∙ a.child.lower in
        let i : v.depth < level_count v.bits = a.child.inside in
        omega arith

    pub child_found : value_of (matches eq k h) v.entries ≡ value_of (matches eq k h) made.entries
    child_found = ap (option_map (λ (e : Stored K V). e.1.1)) a.child.found_in ∙ ap (λ (x : Trie K V). value_of (matches eq k h) x.entries) (sym same)

    -- and seen as e once the reference into it has ended
    module _ (new : Rc (Trie K V) A) {e : Trie K V} (is : new.value ≡ e) where
      pub child_put : (w : V) → e ≡ node_with (matches eq k h) w made → IsSeenAs bits d (seen (put_at place new rcs)) (node_with (matches eq k h) w v)
      child_put w q = child_valued w new (is ∙ q ∙ ap (λ n. node_with (matches eq k h) w n) same)

      pub child_kept : e ≡ made → IsSeenAs bits d (seen (put_at place new rcs)) v
      child_kept q = child_stays new (is ∙ q ∙ same)

      pub child_lent : (w : V) {Ok : Type 0} → Written Ok (e ≡ node_with (matches eq k h) w made) (e ≡ made)
          → Written Ok (IsSeenAs bits d (seen (put_at place new rcs)) (node_with (matches eq k h) w v)) (IsSeenAs bits d (seen (put_at place new rcs)) v)
      child_lent w q = outward q (child_put w) child_kept

pub child_absent : {K S V A : Type 0} {eq : K → S → Bool} {k : S} {h bits d place : ℕ} {v : Trie K V} {rcs : List (ℕ × Rc (Trie K V) A)} → HasNoChild eq k h bits d place v rcs → value_of (matches eq k h) v.entries ≡ None
child_absent {K} {S} {V} a = ap (option_map (λ (e : Stored K V). e.1.1)) a.absent

-- the one entry of a leaf
module _ {K V : Type 0} (t : Stored K V → Bool) (e : Stored K V) where
  pub alone_written : t e ≡ true → (w : V) (new : Stored K V) {Ok : Type 0} → Written Ok (new ≡ valued w e) (new ≡ e)
      → Written Ok (new ∷ [] ≡ with_value t w (e ∷ [])) (new ∷ [] ≡ e ∷ [])
  alone_written hit w new q = outward q (λ z. rw (z, hit) refl) (λ z. ap (λ x. x ∷ []) z)

  pub alone_found : t e ≡ true → value_of t (e ∷ []) ≡ Some e.1.1
  alone_found hit = rw hit refl

  pub alone_absent : t e ≡ false → value_of t (e ∷ []) ≡ None
  alone_absent miss = rw miss refl

-- the others of a collision
module _ {K V A : Type 0} (t : Stored K V → Bool) where
  abbrev at : List (EntryWithHash K V A) → ℕ
  at xs = index_of t (map stored xs)

  others_put : (w : V) (xs : List (EntryWithHash K V A)) (held new : EntryWithHash K V A) → at xs < length xs → held ≡ get_or xs (at xs) held → stored new ≡ valued w (stored held)
      → map stored (set xs (at xs) new) ≡ with_value t w (map stored xs)
  others_put w [] held new lt e is = absurd (omega arith)
  others_put w (x ∷ xs) held new lt e is = grind (arith, others_put w xs held new)

  others_kept : (xs : List (EntryWithHash K V A)) (i : ℕ) (held new : EntryWithHash K V A) → held ≡ get_or xs i held → stored new ≡ stored held → map stored (set xs i new) ≡ map stored xs
  others_kept [] i held new e is = refl
  others_kept (x ∷ xs) zero held new e is = ap (λ s. s ∷ map stored xs) (is ∙ ap (λ (y : EntryWithHash K V A). stored y) e)
  others_kept (x ∷ xs) (suc i) held new e is = ap (λ z. stored x ∷ z) (others_kept xs i held new e is)

  others_found : (xs : List (EntryWithHash K V A)) (held : EntryWithHash K V A) → at xs < length xs → held ≡ get_or xs (at xs) held → found t (map stored xs) ≡ Some (stored held)
  others_found [] held lt e = absurd (omega arith)
  others_found (x ∷ xs) held lt e = grind (arith, others_found xs held)

  module _ (f : Stored K V) (xs : List (EntryWithHash K V A)) (miss : t f ≡ false) where
    pub collision_absent : (i : ℕ) → i ≡ at xs → length xs ≤ i → value_of t (f ∷ map stored xs) ≡ None
    collision_absent i is le = let l = length-map xs stored in rw (miss, index_none t (map stored xs) (omega arith)) refl

    module _ (i : ℕ) (is : i ≡ at xs) (lt : i < length xs) (held : EntryWithHash K V A) (e : held ≡ get_or xs i held) where
      pub held_found : value_of t (f ∷ map stored xs) ≡ Some held.entry.value.value
      held_found = rw (miss, others_found xs held (omega arith) (subst (λ n. held ≡ get_or xs n held) is e)) refl

      pub held_kept : (new : EntryWithHash K V A) → stored new ≡ stored held → f ∷ map stored (set xs i new) ≡ f ∷ map stored xs
      held_kept new q = ap (λ z. f ∷ z) (others_kept xs i held new e q)

      pub held_put : (w : V) (new : EntryWithHash K V A) → stored new ≡ valued w (stored held) → f ∷ map stored (set xs i new) ≡ with_value t w (f ∷ map stored xs)
      held_put w new q = rw (miss, is) (ap (λ z. f ∷ z) (others_put w xs held new (omega arith) (subst (λ n. held ≡ get_or xs n held) is e) q))

      pub held_written : (w : V) (new : EntryWithHash K V A) {Ok : Type 0} → Written Ok (stored new ≡ valued w (stored held)) (stored new ≡ stored held)
          → Written Ok (f ∷ map stored (set xs i new) ≡ with_value t w (f ∷ map stored xs)) (f ∷ map stored (set xs i new) ≡ f ∷ map stored xs)
      held_written w new q = outward q (λ z. held_put w new z) (λ z. held_kept new z)

pub shown_of : {K V A : Type 0} (x y : Collision K V A) → (x ≡ y) ⊎ (shown x ≡ shown y) → shown x ≡ shown y
shown_of x y (inl e) = ap (λ (c : Collision _ _ _). shown c) e
shown_of x y (inr e) = e

-- what was written to a list that was made the node's own
pub carried : {K V Ok : Type 0} (t : Stored K V → Bool) (w : V) {made es new end : List (Stored K V)} → made ≡ es → new ≡ end → Written Ok (end ≡ with_value t w made) (end ≡ made)
    → Written Ok (new ≡ with_value t w es) (new ≡ es)
carried t w same is q = outward q (λ z. is ∙ z ∙ ap (with_value t w) same) (λ z. is ∙ z ∙ same)

-- a node is ready at the root
pub root_ready : {S K V : Type 0} (eq : K → S → Bool) (k : S) (h : ℕ) {kc : K → K → Type 0} {vc : V → V → Type 0} (v n : Trie K V) → n ≡ v → v.depth ≡ 0 → length v.entries ≤ length (unmatched (matches eq k h) v.entries) + 1
    → ((x y : K) → kc x y → y ≡ x) → ((x y : V) → vc x y → y ≡ x) → IsReady eq kc vc n k h
root_ready eq k h v n same top once keys values = rw same (record { alike = agree_top v.bits v.depth h v.entries top; once = once; keys = keys; values = values })
