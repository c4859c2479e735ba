-- The way down to an item.
use Rattle.rpds_vector.proofs.Words.{MutBor, Result, Ok, Err, ◌≡◌, ℕ, ◌+◌, ◌*◌, ◌%◌, ◌<◌, ◌≤◌, Option, Some, List, length, get_or, set, refl, sym, ap, ◌∙◌}
use Rattle.rpds_vector.proofs.Words.{subst, arith, slice_get, Vec, Rc, length-set, slice_get_read, Tells, with_reason, ValueMutError, NoMemory, behind}
use Rattle.rpds_vector.proofs.Words.{behind_length, behind_set, Trie, span, position, item_at, with_item, IsReady, Place, Contents, items_of}
use Rattle.rpds_vector.proofs.OpenNodes.{get_behind}
use Rattle.rpds_vector.proofs.Places.{IsInBranch, IsInLeaf, place_of, below, child_there, in_child, child_found, leaf_place, leaf_inside}
use Rattle.rpds_vector.proofs.Changes.{IsNewLeaf, leaf_new}
use Rattle.rpds_vector.proofs.InPlace.{behind_same}
use Rattle.rpds_vector.proofs.Roots.{IsOpened}

-- what was read of the payload of a node, said of the row that this is
module _ {X A : Type 0} {xs ys : Vec X A} where
  pub within : {i : ℕ} → xs ≡ ys → i < ys.len → i < xs.len
  within {i} e h = subst (λ (r : Vec X A). i < r.len) (sym e) h

  pub read_in : {x : X} (i : ℕ) → xs ≡ ys → x ≡ get_or xs.items i x → x ≡ get_or ys.items i x
  read_in {x} i e h = subst (λ (r : Vec X A). x ≡ get_or r.items i x) e h

module _ {T A : Type 0} {v : Trie T} {b n H i : ℕ} {rcs : List (Rc (Trie T) A)} {rc : Rc (Trie T) A} (a : IsInBranch v b rcs n H i) (there : n % span v.bits (H + 1) < length v.items) (e : rc ≡ get_or rcs i rc) (k : Trie T) (same : k ≡ rc.value) where
  pub child_ready : {is_clone : T → T → Type 0} → H * v.bits < 64 → ((x y : T) → is_clone x y → y ≡ x) → IsReady is_clone k (below (place_of n H))
  child_ready shift clones =
      let c = in_child a there e shift in
      rw same (record { level = c.level; shift = c.shift; there = c.there; clones = clones })

  pub child_lower : k.height + 1 ≤ v.height
  child_lower = rw same (omega (arith, (child_there a there e).falls))

  pub found_below : item_at v (place_of n H) ≡ item_at k (below (place_of n H))
  found_below = rw same (child_found a there e)

module _ {T A : Type 0} {v : Trie T} {b n H i : ℕ} {rcs : List (Rc T A)} (a : IsInLeaf v b rcs n H i) where
  pub item_inside : i < length rcs
  item_inside = omega (arith, leaf_inside a, behind_length rcs)

  pub item_set : (w : T) → IsNewLeaf b (set (behind rcs) i w) (with_item v (place_of n H) w)
  item_set w =
      let size = length-set (behind rcs) i w in
      rw (leaf_place a, ap (λ (t : Trie T). t.items) a.o.is)
      (leaf_new a.o (set (behind rcs) i w) (omega (arith, size, a.o.sound.some)) (omega (arith, size, a.o.sound.few)))

  pub item_written : (w : T) (new : Rc T A) → new.value ≡ w → IsNewLeaf b (behind (set rcs i new)) (with_item v (place_of n H) w)
  item_written w new is = rw (behind_set rcs i new, is) (item_set w)

  module _ {rc : Rc T A} (e : rc ≡ get_or rcs i rc) where
    pub item_found : item_at v (place_of n H) ≡ Some rc.value
    item_found = rw (leaf_place a, a.o.is) (slice_get_read (behind rcs) (length (behind rcs)) i rc.value refl (omega (arith, leaf_inside a)) (get_behind rcs i rc e))

    pub item_stays : (new : Rc T A) → new.value ≡ rc.value → IsNewLeaf b (behind (set rcs i new)) v
    item_stays new same = rw (behind_same rcs i rc new e same) (record { is = sym a.o.is; sound = a.o.sound })

-- a stop for any reason, reported as one for want of memory
pub told_lower : {V E : Type 0} {whole part : Option V} → whole ≡ part → (why : ValueMutError) (r : Result (MutBor V) E) → Tells part (with_reason why r) → Tells whole (with_reason NoMemory r)
told_lower e why (Ok x) h = e ∙ h
told_lower e why (Err x) h = tt

module _ {T : Type 0} {s : Contents T} {v : Trie T} {bits len : ℕ} (o : IsOpened s v bits len) where
  -- a vector whose root has another item at the place
  pub root_written : {A : Type 0} (p : Place) → position v p ≡ p.index → (new : Rc (Trie T) A) (w : T) → new.value ≡ with_item v p w → ◌≡◌ {A = Contents T} (record { items = items_of (Some new); bits = bits }) (record s { items = set s.items p.index w })
  root_written p at_index new w is = rw (is, at_index, o.is) refl

  pub root_kept : {A : Type 0} (new : Rc (Trie T) A) → new.value ≡ v → ◌≡◌ {A = Contents T} (record { items = items_of (Some new); bits = bits }) s
  root_kept new is = rw (is, o.is) refl

  pub root_found : (p : Place) → position v p ≡ p.index → slice_get s.items p.index ≡ item_at v p
  root_found p at_index = rw (at_index, o.is) refl

  pub root_counted : len ≡ length s.items
  root_counted = rw o.is (sym o.counted)
