-- What a removal in place leaves.
use Rattle.rpds_hash_trie.proofs.Words.{Result, Ok, Err, IfOk, OnErr, ◌≡◌, ℕ, zero, suc, ◌+◌, ◌≤◌, Bool, true, false, List, [], ◌∷◌, Some, None, length, length-append, refl, sym, ap, ◌∙◌, subst, arith, ◌^◌, IsSome, Rc, append-nil, false≢true, item_at, put_at, without_at, first_item, seen, digit, Stored, Trie, flat, IsSound, IsLoose, matches, found, unmatched, leaf_of, stored, trie_of, IsNode, Kind, Branch, AllocError, IsRemoved, IsRemovedFrom, EntryWithHash, Removed, NotFound, OneLeft, Done}
use Rattle.rpds_hash_trie.specs.HashRemovalInPlace.{IsRemovedChild}
use Rattle.rpds_hash_trie.proofs.ArrayGet.{eqb_same}
use Rattle.rpds_hash_trie.proofs.Children.{under, once_under, put_less}
use Rattle.rpds_hash_trie.proofs.Child.{HasChild, HasNoChild}
use Rattle.rpds_hash_trie.proofs.NodeInsert.{put_seen}
use Rattle.rpds_hash_trie.specs.HashLent.{IsSeenAs}
use Rattle.rpds_hash_trie.proofs.NodeValueMut.{put_same, child_kept}
use Rattle.rpds_hash_trie.proofs.NodeRemove.{IsLess, less_children, changed_children, many_children, length_seen, none_kept, not_alone, only_one, none_first}

module _ {K V A : Type 0} where
  pub stays_removed : (test : Stored K V → Bool) (v new : Trie K V) (removed : Removed K V A) → new ≡ v → IsRemoved test v.entries v.entries removed → IsRemovedFrom test v new removed
  stays_removed test v new removed e is = subst (λ x. IsRemovedFrom test v x removed) (sym e) (record { same = refl; entries = is })

  -- a node that stays has the same entries
  pub as_before : (test : Stored K V → Bool) (made after : Trie K V) (removed : Removed K V A) → IsRemovedFrom test made after removed → after.entries ≡ made.entries → after ≡ made
  as_before test made after removed p e = p.same ∙ ap {A = List (Stored K V)} {B = Trie K V} (λ l. record made { entries = l }) e

pub item_put : {X : Type 0} (p : ℕ) (x : X) (cs : List (ℕ × X)) → IsSome (item_at p (put_at p x cs))
item_put p x [] = rw (eqb_same p p refl) refl
item_put p x (c ∷ cs) = grind (arith, item_put p x cs)

under_le : {K V : Type 0} (p : ℕ) (cs : List (ℕ × Trie K V)) → length (under (item_at p cs)) ≤ length (flat cs)
under_le p [] = omega arith
under_le p (x ∷ xs) = grind (arith, under_le p xs, length-append x.1.entries (flat xs))

-- the only child
only_child : {K V A : Type 0} (p : ℕ) (rcs : List (ℕ × Rc (Trie K V) A)) (old : Rc (Trie K V) A) → length rcs ≡ 1 → item_at p rcs ≡ Some old → flat (seen rcs) ≡ old.value.entries
only_child p [] old l i = absurd (omega arith)
only_child p (c ∷ []) old l i = grind (arith, append-nil c.1.value.entries)
only_child p (a ∷ b ∷ cs) old l i = absurd (omega arith)

pub seen_without : {X A : Type 0} (p : ℕ) (cs : List (ℕ × Rc X A)) → seen (without_at p cs) ≡ without_at p (seen cs)
seen_without p [] = refl
seen_without p (c ∷ cs) = grind (arith, seen_without p cs)

length_of_without : {X : Type 0} (p : ℕ) (cs : List (ℕ × X)) → IsSome (item_at p cs) → suc (length (without_at p cs)) ≡ length cs
length_of_without p [] s = absurd (false≢true s)
length_of_without p (c ∷ cs) s = grind (arith, length_of_without p cs)

-- what stays without the child at a place
module _ {K V A : Type 0} (bits d p : ℕ) (rcs : List (ℕ × Rc (Trie K V) A)) (there : IsSome (item_at p rcs)) (l : IsLoose bits d (without_at p (seen rcs))) where
  loose : IsLoose bits d (seen (without_at p rcs))
  loose = rw (seen_without p rcs) l

  pub several_left : (length rcs ≡ 2 → ⊥) → 2 ≤ length (flat (without_at p (seen rcs)))
  several_left ne = rw (← seen_without p rcs) (not_alone bits d (without_at p rcs) loose (λ e. ne (sym (length_of_without p rcs there) ∙ ap suc e)))

  one_child : length rcs ≡ 2 → length (without_at p rcs) ≡ 1
  one_child two = let e = length_of_without p rcs there in omega arith

  pub one_left : length rcs ≡ 2 → (only : Rc (Trie K V) A) → first_item (without_at p rcs) ≡ Some only → flat (without_at p (seen rcs)) ≡ only.value.entries
  one_left two only f = rw (← seen_without p rcs) (only_one bits d (without_at p rcs) loose only (one_child two) f)

  pub none_left : length rcs ≡ 2 → first_item (without_at p rcs) ≡ None → ⊥
  none_left two f = none_first bits d (without_at p rcs) loose (one_child two) f

-- one entry, which passes the test or doesn't
module _ {K V : Type 0} (test : Stored K V → Bool) (e : Stored K V) where
  pub none_of_one : test e ≡ false → found test (e ∷ []) ≡ None
  none_of_one miss = rw miss refl

  pub one_goes : test e ≡ true → unmatched test (e ∷ []) ≡ []
  one_goes hit = rw hit refl

  pub one_found : test e ≡ true → IsSome (found test (e ∷ []))
  one_found hit = rw hit refl

-- what a removal leaves of the node v, and what it answers
pub record HasRemoved {K V A : Type 0} (test : Stored K V → Bool) (v : Trie K V) (bits d : ℕ) (kind : Kind K V A) (r : Result (Removed K V A) AllocError) : Type 0 where
  pub sound : IsNode bits d kind
  pub ok : IfOk r (λ removed. IsRemovedFrom test v (trie_of bits d kind) removed)
  pub err : OnErr r (trie_of bits d kind ≡ v)

-- the place has no child
pub none_removed : {K S V A : Type 0} {eq : K → S → Bool} {k : S} {h bits d place : ℕ} {v new : Trie K V} {rcs : List (ℕ × Rc (Trie K V) A)} → HasNoChild eq k h bits d place v rcs → new ≡ v → IsRemovedFrom {A = A} (matches eq k h) v new NotFound
none_removed {eq = eq} {k = k} {h = h} {v = v} {new = new} a e = stays_removed (matches eq k h) v new NotFound e (a.absent, refl)

module _ {K S V A : Type 0} {eq : K → S → Bool} {k : S} {h bits d place : ℕ} {v : Trie K V} {rcs : List (ℕ × Rc (Trie K V) A)} {old : Rc (Trie K V) A} (a : HasChild eq k h bits d place v rcs old) (once : length v.entries ≤ length (unmatched (matches eq k h) v.entries) + 1) where
  abbrev t : Stored K V → Bool
  t = matches eq k h

  done : (cs : List (ℕ × Rc (Trie K V) A)) → IsLess bits d (seen cs) (unmatched t v.entries) → 2 ≤ length (unmatched t v.entries) → IsSome (found t v.entries) → HasRemoved t v bits d (Branch cs) (Ok Done)
  done cs less two some =
      let l = less.loose in
      let many : length (flat (seen cs)) ≡ length (unmatched t v.entries) = ap length less.entries in
      record {
        sound = record { bits_in = l.bits_in; left = l.left; several = omega arith; children = l.children; alike = l.alike };
        ok = record { same = rw a.opened.is refl; entries = (some, less.entries, two) };
        err = tt;
      }

  below_two : 2 ≤ length (unmatched t old.value.entries) → 2 ≤ length (unmatched t v.entries)
  below_two two =
      let count = once_under eq k h bits d (digit (2 ^ bits) d h) refl 0 (seen rcs) a.opened.sound.children in
      let counted : length (flat (seen rcs)) + length (unmatched t old.value.entries) ≡ length (unmatched t (flat (seen rcs))) + length old.value.entries = rw a.there at count in
      let le : length old.value.entries ≤ length (flat (seen rcs)) = let within : length (under (item_at (digit (2 ^ bits) d h) (seen rcs))) ≤ length (flat (seen rcs)) = under_le {K = K} {V = V} (digit (2 ^ bits) d h) (seen rcs) in rw a.there at within in
      rw a.opened.is (omega arith)

  module _ {made : Trie K V} (same : made ≡ old.value) where
    found_same : found t v.entries ≡ found t made.entries
    found_same = a.child.found_in ∙ ap (λ (x : Trie K V). found t x.entries) (sym same)

    less_made : unmatched t made.entries ≡ unmatched t old.value.entries
    less_made = ap (λ (x : Trie K V). unmatched t x.entries) same

    module _ (new : Rc (Trie K V) A) {after : Trie K V} (is : new.value ≡ after) where
      -- the child without the entry, in its place
      less_in : IsSound after → after ≡ record made { entries = unmatched t made.entries } → IsLess bits d (seen (put_at place new rcs)) (unmatched t v.entries)
      less_in sound e =
          let new_is : new.value ≡ record old.value { entries = unmatched t old.value.entries } = is ∙ e ∙ ap {A = Trie K V} {B = Trie K V} (λ x. record x { entries = unmatched t x.entries }) same in
          let sound' : IsSound new.value = rw is sound in
          rw (put_seen place new rcs) (changed_children a once new.value new_is sound')

      pub done_below : IsSound after → IsRemovedFrom {A = A} t made after Done → HasRemoved t v bits d (Branch (put_at place new rcs)) (Ok Done)
      done_below sound p =
          let e : after ≡ record made { entries = unmatched t made.entries } = p.same ∙ ap {A = List (Stored K V)} {B = Trie K V} (λ l. record made { entries = l }) p.entries.1 in
          let two : 2 ≤ length (unmatched t old.value.entries) = rw less_made at p.entries.2 in
          done _ (less_in sound e) (below_two two) (subst IsSome (sym found_same) p.entries.0)

      -- the child became the leaf of the entry that stays
      pub leaf_below : {before : Trie K V} {e : EntryWithHash K V A} → IsRemovedFrom {A = A} t made before (OneLeft e) → after ≡ leaf_of before.bits before.depth (stored e) → IsSound after → (length rcs ≡ 1 → ⊥)
          → HasRemoved t v bits d (Branch (put_at place new rcs)) (Ok Done)
      leaf_below {before} {e} p leaf sound ne =
          let kept : before ≡ made = as_before t made before (OneLeft e) p p.entries.2 in
          let made_is : after ≡ record made { entries = unmatched t made.entries } = leaf ∙ ap {A = Trie K V} {B = Trie K V} (λ x. record x { entries = stored e ∷ [] }) kept ∙ ap {A = List (Stored K V)} {B = Trie K V} (λ l. record made { entries = l }) (sym p.entries.1) in
          let less = less_in sound made_is in
          let some : 2 ≤ length (flat (seen rcs)) = a.opened.sound.several in
          let many = many_children bits d 0 (seen (put_at place new rcs)) less.loose.children in
          let entries_is : new.value.entries ≡ unmatched t old.value.entries = ap (λ (x : Trie K V). x.entries) (is ∙ made_is) ∙ less_made in
          let size : length (seen (put_at place new rcs)) ≡ length rcs =
          ap length (put_seen place new rcs ∙ ap (λ q. put_at q new.value (seen rcs)) a.place_is) ∙ (put_less eq k h bits d (digit (2 ^ bits) d h) refl new.value 0 (seen rcs) old.value a.opened.sound.children a.there entries_is).1 ∙ length_seen rcs in
          let all : length (flat (seen (put_at place new rcs))) ≡ length (unmatched t v.entries) = ap length less.entries in
          let ne' : length rcs ≡ 0 → ⊥ = (λ z. no_child rcs z a.held) in
          done _ less (at_least (length rcs) ne ne' (omega arith)) (subst IsSome (sym found_same) p.entries.0)
        where
          no_child : (cs : List (ℕ × Rc (Trie K V) A)) → length cs ≡ 0 → item_at place cs ≡ Some old → ⊥
          no_child [] z j = cc
          no_child (c ∷ cs) z j = absurd (omega arith)

          at_least : (n : ℕ) → (n ≡ 1 → ⊥) → (n ≡ 0 → ⊥) → n ≤ length (unmatched t v.entries) → 2 ≤ length (unmatched t v.entries)
          at_least zero ne some le = absurd (some refl)
          at_least (suc zero) ne some le = absurd (ne refl)
          at_least (suc (suc n)) ne some le = omega arith

      kept : after ≡ made → IsSeenAs bits d (seen (put_at place new rcs)) v
      kept e = child_kept a same new is e

      -- the child and its entries stay
      stays : (removed : Removed K V A) → after ≡ made → IsRemoved t v.entries v.entries removed → HasRemoved t v bits d (Branch (put_at place new rcs)) (Ok removed)
      stays removed e is = record { sound = (kept e).sound; ok = stays_removed t v _ removed (kept e).is is; err = tt }

      pub not_found_below : IsRemovedFrom {A = A} t made after NotFound → HasRemoved t v bits d (Branch (put_at place new rcs)) (Ok NotFound)
      not_found_below p = stays NotFound (as_before t made after NotFound p p.entries.1) (found_same ∙ p.entries.0, refl)

      pub one_left_below : {e : EntryWithHash K V A} → IsRemovedFrom {A = A} t made after (OneLeft e) → length rcs ≡ 1 → HasRemoved t v bits d (Branch (put_at place new rcs)) (Ok (OneLeft e))
      one_left_below {e} p l =
          let whole : v.entries ≡ old.value.entries = ap (λ (x : Trie K V). x.entries) a.opened.is ∙ only_child place rcs old l a.held in
          stays (OneLeft e) (as_before t made after (OneLeft e) p p.entries.2) (subst IsSome (sym found_same) p.entries.0, ap (unmatched t) whole ∙ sym less_made ∙ p.entries.1, refl)

  -- the child is a leaf, which was looked at
  module _ (e : EntryWithHash K V A) (only : old.value.entries ≡ stored e ∷ []) where
    found_leaf : found t v.entries ≡ found t (stored e ∷ [])
    found_leaf = a.child.found_in ∙ ap (found t) only

    leaf_as_was : (removed : Removed K V A) → IsRemoved t v.entries v.entries removed → HasRemoved t v bits d (Branch (put_at place old rcs)) (Ok removed)
    leaf_as_was removed is = stays refl old refl removed refl is

    -- it has another key
    pub leaf_not_found : t (stored e) ≡ false → HasRemoved t v bits d (Branch (put_at place old rcs)) (Ok NotFound)
    leaf_not_found miss = leaf_as_was NotFound (found_leaf ∙ none_of_one t (stored e) miss, refl)

    -- it goes
    module _ (hit : t (stored e) ≡ true) where
      seen_kept : seen (put_at place old rcs) ≡ seen rcs
      seen_kept = put_seen place old rcs ∙ ap (λ q. put_at q old.value (seen rcs)) a.place_is ∙ put_same eq k h bits d (digit (2 ^ bits) d h) refl 0 (seen rcs) old.value a.opened.sound.children a.there

      rest : IsLess bits d (without_at place (seen (put_at place old rcs))) (unmatched t v.entries)
      rest = rw seen_kept (less_children a once (ap (unmatched t) only ∙ one_goes t (stored e) hit))

      some : IsSome (found t v.entries)
      some = subst IsSome (sym found_leaf) (one_found t (stored e) hit)

      pub leaf_loose : IsLoose bits d (without_at place (seen (put_at place old rcs)))
      leaf_loose = rest.loose

      pub leaf_gone : (cs : List (ℕ × Rc (Trie K V) A)) (r : Result (Removed K V A) AllocError) → IfOk r (λ removed. IsRemovedChild place (put_at place old rcs) cs removed) → OnErr r (cs ≡ put_at place old rcs) → HasRemoved t v bits d (Branch cs) r
      leaf_gone cs (Ok NotFound) q n = absurd q
      leaf_gone cs (Ok (OneLeft x)) q n = rw q.1 (leaf_as_was (OneLeft x) (some, sym rest.entries ∙ q.0, refl))
      leaf_gone cs (Ok Done) q n =
          let two : 2 ≤ length (unmatched t v.entries) = rw rest.entries at q.0 in
          done cs (subst (λ l. IsLess bits d l (unmatched t v.entries)) (sym q.1) rest) two some
      leaf_gone cs (Err x) q n = let same = child_kept a refl old refl refl in rw n (record { sound = same.sound; ok = tt; err = same.is })

-- a root whose node reported that the key was absent
pub absent_root : {K V A : Type 0} (test : Stored K V → Bool) (v old : Trie K V) → old ≡ v → (made : Trie K V) → made ≡ old → (new after : Trie K V) → new ≡ after
    → IsRemovedFrom {A = A} test made after NotFound → new ≡ record v { entries = unmatched test v.entries }
absent_root {K} {V} {A} test v old seen made same new after is p =
    let kept : after ≡ made = as_before {A = A} test made after NotFound p p.entries.1 in
    let whole : new ≡ v = is ∙ kept ∙ same ∙ seen in
    let none : found test v.entries ≡ None = ap (λ (x : Trie K V). found test x.entries) (sym (same ∙ seen)) ∙ p.entries.0 in
    whole ∙ ap {A = List (Stored K V)} {B = Trie K V} (λ l. record v { entries = l }) (sym (none_kept test v.entries none))
