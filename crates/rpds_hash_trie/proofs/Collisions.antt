-- Entries of one hash.
use Rattle.rpds_hash_trie.proofs.Words.{Result, Ok, Err, IfOk, OnErr, ◌≡◌, ℕ, zero, suc, ◌+◌, ◌-◌, ◌^◌, ◌<◌, ◌≤◌, Bool, true, false, cond, List, [], ◌∷◌, ◌++◌, None, length, map, set, get_or, refl, sym, ap, ◌∙◌, subst, arith, IsSome, is_none, remove, IsPermutation, length-map, IsPermutation-refl, Stored, Trie, IsCollision, AllAgree, AllHash, found, unmatched, matches, collision_of, stored, shown, index_of, IsPutIn, IsRemoved, IsRemovedFrom, EntryWithHash, Collision, Removed, NotFound, OneLeft, Done}
use Rattle.std.proofs.lemmas.List.{map-set, map-append}
use Rattle.rpds_hash_trie.specs.HashInPlace.{with_entry, IsPutAmong}
use Rattle.rpds_hash_trie.proofs.Digits.{all_bits, same_hash}
use Rattle.rpds_hash_trie.proofs.Flat.{past, each_without}
use Rattle.rpds_hash_trie.proofs.OpenNodes.{IsOpenCollision}
use Rattle.rpds_hash_trie.proofs.NodeRemove.{all_kept, none_kept}

-- where the first entry that passes the test stands
module _ {K V : Type 0} (t : Stored K V → Bool) where
  pub index_none : (xs : List (Stored K V)) → length xs ≤ index_of t xs → found t xs ≡ None
  index_none [] le = refl
  index_none (x ∷ xs) le = grind (arith, index_none xs)

  pub index_le : (xs : List (Stored K V)) → index_of t xs ≤ length xs
  index_le [] = omega arith
  index_le (x ∷ xs) = grind (arith, index_le xs)

  index_some : (xs : List (Stored K V)) → index_of t xs < length xs → IsSome (found t xs)
  index_some [] lt = absurd (omega arith)
  index_some (x ∷ xs) lt = grind (arith, index_some xs)

  -- where one entry at most passes, the others are those beside it
  without_is : (xs : List (Stored K V)) → length xs ≤ length (unmatched t xs) + 1 → index_of t xs < length xs → unmatched t xs ≡ remove xs (index_of t xs)
  without_is [] once lt = absurd (omega arith)
  without_is (x ∷ xs) once lt = grind (arith, without_is xs, none_kept t xs, all_kept t xs)

  module _ (e : Stored K V) where
    with_set : (xs : List (Stored K V)) → index_of t xs < length xs → with_entry t e xs ≡ set xs (index_of t xs) e
    with_set [] lt = absurd (omega arith)
    with_set (x ∷ xs) lt = grind (arith, with_set xs)

    with_last : (xs : List (Stored K V)) → length xs ≤ index_of t xs → with_entry t e xs ≡ xs ++ e ∷ []
    with_last [] le = refl
    with_last (x ∷ xs) le = grind (arith, with_last xs)

    hash_put : (h : ℕ) (xs : List (Stored K V)) → e.0 ≡ h → AllHash h xs → AllHash h (with_entry t e xs)
    hash_put h [] is a = (is, tt)
    hash_put h (x ∷ xs) is a = grind (arith, hash_put h xs is a.1)

    length_put : (xs : List (Stored K V)) → length xs ≤ length (with_entry t e xs)
    length_put [] = omega arith
    length_put (x ∷ xs) = grind (arith, length_put xs)

    permuted : (xs : List (Stored K V)) → length xs ≤ length (unmatched t xs) + 1 → IsPermutation (e ∷ unmatched t xs) (with_entry t e xs)
    permuted [] once = IsPermutation-refl (e ∷ [])
    permuted (x ∷ xs) once = go (t x) (permuted xs) once
      where
        go : (b : Bool) → (length xs ≤ length (unmatched t xs) + 1 → IsPermutation (e ∷ unmatched t xs) (with_entry t e xs)) → suc (length xs) ≤ length (cond b (unmatched t xs) (x ∷ unmatched t xs)) + 1
            → IsPermutation (e ∷ cond b (unmatched t xs) (x ∷ unmatched t xs)) (cond b (e ∷ xs) (x ∷ with_entry t e xs))
        go true ih o = rw (none_kept t xs (all_kept t xs (omega arith))) (IsPermutation-refl (e ∷ xs))
        go false ih o = past e (x ∷ []) (unmatched t xs) (with_entry t e xs) (ih (omega arith))

some_is : {K V : Type 0} (t : Stored K V → Bool) (xs : List (Stored K V)) → IsSome (found t xs) → false ≡ is_none (found t xs)
some_is t xs some = grind arith

-- the front entry, and the others
module _ {K V A : Type 0} (t : Stored K V → Bool) (f : Stored K V) (xs : List (EntryWithHash K V A)) where
  all : List (Stored K V)
  all = f ∷ map stored xs

  size : length (map stored xs) ≡ length xs
  size = length-map xs stored

  pub put_other : (new : EntryWithHash K V A) (i : ℕ) → i ≡ index_of t (f ∷ map stored xs) → (i ≡ 0 → ⊥) → i ≤ length xs → IsPutAmong t (stored new) (f ∷ map stored xs) (f ∷ map stored (set xs (i - 1) new)) false
  put_other new i is ne le =
      let l = size in
      let lt : index_of t (f ∷ map stored xs) < length (f ∷ map stored xs) = omega arith in
      let step : i ≡ suc (i - 1) = omega arith in
      record {
        entries = sym (with_set t (stored new) (f ∷ map stored xs) lt ∙ ap (λ n. set (f ∷ map stored xs) n (stored new)) (sym is ∙ step) ∙ ap (λ ys. f ∷ ys) (sym (map-set stored xs (i - 1) new)));
        fresh = some_is t (f ∷ map stored xs) (index_some t (f ∷ map stored xs) lt);
      }

  pub put_last : (new : EntryWithHash K V A) (i : ℕ) → i ≡ index_of t (f ∷ map stored xs) → length xs < i → IsPutAmong t (stored new) (f ∷ map stored xs) (f ∷ map stored (xs ++ new ∷ [])) true
  put_last new i is lt =
      let l = size in
      let le : length (f ∷ map stored xs) ≤ index_of t (f ∷ map stored xs) = omega arith in
      record { entries = ap (λ ys. f ∷ ys) (map-append stored xs (new ∷ [])) ∙ sym (with_last t (stored new) (f ∷ map stored xs) le); fresh = ap is_none (sym (index_none t (f ∷ map stored xs) le)) }

module _ {K V A : Type 0} (f : Stored K V) (xs : List (EntryWithHash K V A)) where
  pub removed_other : (i : ℕ) → (i ≡ 0 → ⊥) → f ∷ map stored (remove xs (i - 1)) ≡ remove (f ∷ map stored xs) i
  removed_other zero ne = absurd (ne refl)
  removed_other (suc n) ne = let e : suc n - 1 ≡ n = omega arith in rw e (ap (λ l. f ∷ l) (map_removed xs n))
    where
      map_removed : (zs : List (EntryWithHash K V A)) (n : ℕ) → map stored (remove zs n) ≡ remove (map stored zs) n
      map_removed [] zero = refl
      map_removed [] (suc n) = refl
      map_removed (z ∷ zs) zero = refl
      map_removed (z ∷ zs) (suc n) = ap (λ l. stored z ∷ l) (map_removed zs n)

-- A removal from the collision old, of which one entry at most passes the test: the entry stands at i, and n are behind the front.
pub record IsLookIn {K V A : Type 0} (t : Stored K V → Bool) (old : Collision K V A) (i n : ℕ) : Type 0 where
  pub once : length (shown old) ≤ length (unmatched t (shown old)) + 1
  pub is : i ≡ index_of t (shown old)
  pub size : n ≡ length old.others.items

module _ {K V A : Type 0} {t : Stored K V → Bool} {old : Collision K V A} {i n : ℕ} (s : IsLookIn t old i n) where
  all_size : length (shown old) ≡ suc n
  all_size = ap suc (length-map old.others.items stored ∙ sym s.size)

  within : i ≤ n → index_of t (shown old) < length (shown old)
  within le = omega (arith, s.is, all_size)

  gone : i ≤ n → unmatched t (shown old) ≡ remove (shown old) i
  gone le = without_is t (shown old) s.once (within le) ∙ ap (remove (shown old)) (sym s.is)

  pub removed_not_found : n < i → IsRemoved {A = A} t (shown old) (shown old) NotFound
  removed_not_found lt = (index_none t (shown old) (omega (arith, s.is, all_size)), refl)

  removed_one_left : i ≤ n → (stays : EntryWithHash K V A) → remove (shown old) i ≡ stored stays ∷ [] → IsRemoved t (shown old) (shown old) (OneLeft stays)
  removed_one_left le stays e = (index_some t (shown old) (within le), gone le ∙ e, refl)

  -- of two entries the one that stays
  pub other_left : n ≡ 1 → i ≡ 0 → (x stays : EntryWithHash K V A) → x ≡ get_or old.others.items 0 x → stored stays ≡ stored x → IsRemoved t (shown old) (shown old) (OneLeft stays)
  other_left one first x stays is same =
      removed_one_left (omega arith) stays (ap (remove (shown old)) first ∙ go old.others.items (sym s.size ∙ one) is ∙ ap (λ e. e ∷ []) (sym same))
    where
      go : (ys : List (EntryWithHash K V A)) → length ys ≡ 1 → x ≡ get_or ys 0 x → map stored ys ≡ stored x ∷ []
      go [] l e = absurd (omega arith)
      go (y ∷ []) l e = ap (λ (z : EntryWithHash K V A). stored z ∷ []) (sym e)
      go (y ∷ z ∷ ys) l e = absurd (omega arith)

  pub front_left : n ≡ 1 → (i ≡ 0 → ⊥) → i ≤ n → (stays : EntryWithHash K V A) → stored stays ≡ stored old.front → IsRemoved t (shown old) (shown old) (OneLeft stays)
  front_left one ne le stays same =
      removed_one_left le stays (ap (remove (shown old)) second ∙ go old.others.items (sym s.size ∙ one) ∙ ap (λ e. e ∷ []) (sym same))
    where
      second : i ≡ 1
      second = omega arith

      go : (ys : List (EntryWithHash K V A)) → length ys ≡ 1 → remove (stored old.front ∷ map stored ys) 1 ≡ stored old.front ∷ []
      go [] l = absurd (omega arith)
      go (y ∷ []) l = refl
      go (y ∷ z ∷ ys) l = absurd (omega arith)

  pub several_left : i ≤ n → (n ≡ 1 → ⊥) → 1 ≤ length (map stored old.others.items) → (new : Collision K V A) → shown new ≡ remove (shown old) i → IsRemoved {A = A} t (shown old) (shown new) Done
  several_left le ne some new e = (index_some t (shown old) (within le), e ∙ sym (gone le), omega (arith, ap length (gone le), s.once, all_size))

-- the collision of a node, changed
module _ {K V A : Type 0} (bits d : ℕ) (v : Trie K V) (old new : Collision K V A) (o : IsOpenCollision v bits d (stored old.front) (map stored old.others.items)) where
  made : AllHash old.front.key_hash (shown new) → 2 ≤ length (shown new) → IsCollision bits d new.front.key_hash (map stored new.others.items)
  made all many =
      let s = o.sound in
      record { bits_in = s.bits_in; full = s.full; several = omega arith; same = subst (λ n. AllHash n (map stored new.others.items)) (sym all.0) all.1 }

  all_old : AllHash old.front.key_hash (shown old)
  all_old = (refl, o.sound.same)

  many_old : 2 ≤ length (shown old)
  many_old = let s : 1 ≤ length (map stored old.others.items) = o.sound.several in omega arith

  as_old : shown new ≡ shown old → IsCollision bits d new.front.key_hash (map stored new.others.items)
  as_old e = made (subst (AllHash old.front.key_hash) (sym e) all_old) (subst (λ xs. 2 ≤ length xs) (sym e) many_old)

  pub colliding_err : {X E : Type 0} (r : Result X E) → OnErr r (shown new ≡ shown old) → OnErr r (collision_of bits d (stored new.front) (map stored new.others.items) ≡ v)
  colliding_err (Ok x) n = tt
  colliding_err (Err e) n = ap {A = List (Stored K V)} {B = Trie K V} (λ xs. record { entries = xs; depth = d; bits = bits }) n ∙ sym o.is

  module _ (t : Stored K V → Bool) where
    sound_after : (removed : Removed K V A) → IsRemoved t (shown old) (shown new) removed → IsCollision bits d new.front.key_hash (map stored new.others.items)
    sound_after NotFound p = as_old p.1
    sound_after (OneLeft e) p = as_old p.2
    sound_after Done p = made (subst (AllHash old.front.key_hash) (sym p.1) (each_without (λ e. e.0 ≡ old.front.key_hash) t (shown old) all_old)) (subst (λ xs. 2 ≤ length xs) (sym p.1) p.2)

    module _ {E : Type 0} where
      pub colliding_sound : (r : Result (Removed K V A) E) → IfOk r (λ removed. IsRemoved t (shown old) (shown new) removed) → OnErr r (shown new ≡ shown old) → IsCollision bits d new.front.key_hash (map stored new.others.items)
      colliding_sound (Ok removed) p n = sound_after removed p
      colliding_sound (Err e) p n = as_old n

      pub colliding_removed : (r : Result (Removed K V A) E) → IfOk r (λ removed. IsRemoved t (shown old) (shown new) removed) → IfOk r (λ removed. IsRemovedFrom t v (collision_of bits d (stored new.front) (map stored new.others.items)) removed)
      colliding_removed (Ok removed) p = record { same = rw o.is refl; entries = rw o.is p }
      colliding_removed (Err e) p = tt

  module _ (eq : K → K → Bool) (e : Stored K V) (once : length v.entries ≤ length (unmatched (matches eq e.1.0 e.0) v.entries) + 1) where
    abbrev t : Stored K V → Bool
    t = matches eq e.1.0 e.0

    -- the new entry has the hash of the others
    one_hash : old.front.key_hash < 2 ^ 64 → e.0 < 2 ^ 64 → AllAgree v.bits v.depth e.0 v.entries → e.0 ≡ old.front.key_hash
    one_hash fl hl agrees =
        let s = o.sound in
        let a : AllAgree bits d e.0 (shown old) = subst (λ (x : Trie K V). AllAgree x.bits x.depth e.0 x.entries) o.is agrees in
        sym (same_hash bits d old.front.key_hash e.0 (all_bits bits d s.bits_in.0 s.bits_in.1 s.full) fl hl a.0)

    module _ {E : Type 0} (r : Result Bool E) (p : IfOk r (λ added. IsPutAmong t e (shown old) (shown new) added)) where
      pub put_sound : OnErr r (shown new ≡ shown old) → old.front.key_hash < 2 ^ 64 → e.0 < 2 ^ 64 → AllAgree v.bits v.depth e.0 v.entries → IsCollision bits d new.front.key_hash (map stored new.others.items)
      put_sound n fl hl agrees = go r p n
        where
          go : (r : Result Bool E) → IfOk r (λ added. IsPutAmong t e (shown old) (shown new) added) → OnErr r (shown new ≡ shown old) → IsCollision bits d new.front.key_hash (map stored new.others.items)
          go (Ok added) p n =
              let l = length_put t e (shown old) in
              let m = many_old in
              made (subst (AllHash old.front.key_hash) (sym p.entries) (hash_put t e old.front.key_hash (shown old) (one_hash fl hl agrees) all_old)) (subst (λ xs. 2 ≤ length xs) (sym p.entries) (omega (arith, l, m)))
          go (Err x) p n = as_old n

      pub put_among : IfOk r (λ added. IsPutIn t e v (collision_of bits d (stored new.front) (map stored new.others.items)) added)
      put_among = go r p
        where
          go : (r : Result Bool E) → IfOk r (λ added. IsPutAmong t e (shown old) (shown new) added) → IfOk r (λ added. IsPutIn t e v (collision_of bits d (stored new.front) (map stored new.others.items)) added)
          go (Ok added) p =
              let once' : length (shown old) ≤ length (unmatched t (shown old)) + 1 = subst (λ (x : Trie K V). length x.entries ≤ length (unmatched t x.entries) + 1) o.is once in
              rw o.is (record { bits = refl; depth = refl; entries = rw p.entries (permuted t e (shown old) once'); fresh = p.fresh })
          go (Err x) p = tt
