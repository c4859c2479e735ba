-- Where a value first stands in a growing list.
use Rattle.std.proofs.Common.{◌≡◌, ◌<◌, ◌+◌, ◌∙◌, ◌||◌, ℕ, Bor, Bool, true, false, not, cond, ◌++◌, ◌∷◌, [], List, Option, Some, None, length, get_or, refl, sym, ap, subst, slice_get, option_map, arith}
use Rattle.std.specs.Cmp.{IsEquivalence}
use Rattle.std.specs.List.{IsDistinct, list_any, position, position_from}
use Rattle.std.specs.Option.{option_copied, option_eq, option_or}
use Rattle.std.proofs.Math.Logic.{◌↔◌}
use Rattle.std.proofs.lemmas.Iterator.Adapters.{position_from-zero}
use Rattle.std.proofs.lemmas.List.Quantifiers.{position-Some}
use Rattle.std.proofs.lemmas.Map.Keys.{IsDistinct-push}
use Rattle.std.proofs.lemmas.List.Folds.{list_any_at}
use Rattle.std.proofs.lemmas.Option.{get_or_from_slice_get, slice_get-get_or, slice_get_within}
use Rattle.rpds_hash_trie.specs.HashedMap.{find, without}
use Rattle.rpds_hash_trie.proofs.FromIter.{find_without, find_without_other}
use Rattle.rpds_hash_trie.proofs.KeyLaws.{equal_to, find_same}
use Rattle.rpds_arena.specs.declared.arena.Id.{Id}
use Rattle.rpds_arena.specs.Ids.{number_of}
use Rattle.rpds_arena.specs.Interned.{place_of}
use Rattle.rpds_arena.specs.Numbered.{IsNumbered}

or_none : {T : Type 0} (o : Option T) → option_or o None ≡ o
or_none None = refl
or_none (Some x) = refl

module _ {T : Type 0} (p : T → Bool) where
  from_push : (i : ℕ) (xs : List T) (y : T) → position_from p i (xs ++ y ∷ []) ≡ option_or (position_from p i xs) (cond (p y) (Some (i + length xs)) None)
  from_push i [] y = ap (λ n. cond (p y) (Some n) None) (omega arith)
  from_push i (x ∷ xs) y = go (p x) (from_push (i + 1) xs y)
    where
      go : (b : Bool) → position_from p (i + 1) (xs ++ y ∷ []) ≡ option_or (position_from p (i + 1) xs) (cond (p y) (Some (i + 1 + length xs)) None)
          → cond b (Some i) (position_from p (i + 1) (xs ++ y ∷ [])) ≡ option_or (cond b (Some i) (position_from p (i + 1) xs)) (cond (p y) (Some (i + length (x ∷ xs))) None)
      go true rest = refl
      go false rest = rest ∙ ap (λ n. option_or (position_from p (i + 1) xs) (cond (p y) (Some n) None)) (omega arith)

  from_append : (i n : ℕ) (xs more : List T) → position_from p i xs ≡ Some n → position_from p i (xs ++ more) ≡ Some n
  from_append i n [] more there = absurd (cc)
  from_append i n (x ∷ xs) more there = go (p x) there (from_append (i + 1) n xs more)
    where
      go : (b : Bool) → cond b (Some i) (position_from p (i + 1) xs) ≡ Some n → (position_from p (i + 1) xs ≡ Some n → position_from p (i + 1) (xs ++ more) ≡ Some n)
          → cond b (Some i) (position_from p (i + 1) (xs ++ more)) ≡ Some n
      go true there rest = there
      go false there rest = rest there

  from_none : (i : ℕ) (xs : List T) → position_from p i xs ≡ None → list_any p xs ≡ false
  from_none i [] none = refl
  from_none i (x ∷ xs) none = go (p x) none (from_none (i + 1) xs)
    where
      go : (b : Bool) → cond b (Some i) (position_from p (i + 1) xs) ≡ None → (position_from p (i + 1) xs ≡ None → list_any p xs ≡ false) → (b || list_any p xs) ≡ false
      go true none rest = absurd (cc)
      go false none rest = rest none

  from_zero : (xs : List T) → position p xs ≡ position_from p 0 xs
  from_zero xs = position_from-zero p xs

  position-push : (xs : List T) (y : T) → position p (xs ++ y ∷ []) ≡ option_or (position p xs) (cond (p y) (Some (length xs)) None)
  position-push xs y =
      from_zero (xs ++ y ∷ []) ∙ from_push 0 xs y ∙ ap (λ n. option_or (position_from p 0 xs) (cond (p y) (Some n) None)) (omega arith) ∙ ap (λ o. option_or o (cond (p y) (Some (length xs)) None)) (sym (from_zero xs))

  pub position-append : (xs more : List T) (n : ℕ) → position p xs ≡ Some n → position p (xs ++ more) ≡ Some n
  position-append xs more n there = from_zero (xs ++ more) ∙ from_append 0 n xs more (sym (from_zero xs) ∙ there)

  position_none : (xs : List T) → position p xs ≡ None → list_any p xs ≡ false
  position_none xs none = from_none 0 xs (sym (from_zero xs) ∙ none)

module _ {T : Type 0} {eq : T → T → Bool} (law : IsEquivalence eq) where
  -- equal values have one place
  same_place : (x y : T) (items : List T) → eq x y ≡ true → place_of eq x items ≡ place_of eq y items
  same_place x y items same = λ i. position (λ item. equal_to law item x y same i) items

  -- and two that have one place are equal
  pub place_tells : (x y : T) (items : List T) (n : ℕ) → place_of eq x items ≡ Some n → (place_of eq y items ≡ Some n) ↔ (eq y x ≡ true)
  place_tells x y items n there = (
    (λ here.
        let item = get_or items n x in
        let first : eq item x ≡ true = (position-Some (λ z. eq z x) items n x there).1 in
        let second : eq item y ≡ true = (position-Some (λ z. eq z y) items n x here).1 in
        sym (law.congr item y x second) ∙ first),
    (λ same. same_place y x items same ∙ there),
  )

  unlike : (x : T) (items : List T) → place_of eq x items ≡ None → list_any (eq x) items ≡ false
  unlike x items none = (λ i. list_any (λ item. law.symm x item i) items) ∙ position_none (λ item. eq item x) items none

  pub place_pushed : (x : T) (items : List T) → place_of eq x items ≡ None → place_of eq x (items ++ x ∷ []) ≡ Some (length items)
  place_pushed x items none = position-push (λ item. eq item x) items x ∙ rw (none, law.refl x) refl

  module _ {K : Type 0} (has_strays : Bool) (items : List T) (ids : List (T × Id K)) (numbered : IsNumbered eq has_strays items ids) where
    module _ (value : Bor T) (id : Id K) (found : Some id ≡ option_map (λ (p : T × Id K). p.1) (find eq value.now ids)) where
      number_found : option_map (λ (p : T × Id K). number_of p.1) (find eq value.now ids) ≡ Some (number_of id)
      number_found = go (find eq value.now ids) found
        where
          go : (o : Option (T × Id K)) → Some id ≡ option_map (λ (p : T × Id K). p.1) o → option_map (λ (p : T × Id K). number_of p.1) o ≡ Some (number_of id)
          go None is = absurd (cc)
          go (Some p) is = let same : id ≡ p.1 = cc in ap (λ (i : Id K). Some (number_of i)) (sym same)

      -- without strays, an id that is found is that of the place
      pub place_of_id : has_strays ≡ false → Some (number_of id) ≡ place_of eq value.now items
      place_of_id whole = sym number_found ∙ numbered.places whole value.now

      -- so is the id of an equal item
      pub place_of_item : (item : Option (Bor T)) → option_copied item ≡ slice_get items (number_of id) → false ≡ not (option_eq (λ (x y : Bor T). eq x.now y.now) item (Some value))
          → Some (number_of id) ≡ place_of eq value.now items
      place_of_item None at same = let no : false ≡ true = same in absurd (cc)
      place_of_item (Some item) at same = go (place_of eq value.now items) refl
        where
          equal : (b : Bool) → false ≡ not b → b ≡ true
          equal true is = refl
          equal false is = absurd (cc)

          go : (o : Option ℕ) → place_of eq value.now items ≡ o → Some (number_of id) ≡ o
          go None none =
              let is : get_or items (number_of id) value.now ≡ item.now = get_or_from_slice_get items (number_of id) item.now value.now (sym at) in
              let within : number_of id < length items = slice_get_within items (number_of id) item.now (sym at) in
              let some : list_any (λ i. eq i value.now) items ≡ true = list_any_at (λ i. eq i value.now) items (number_of id) value.now within (ap (λ i. eq i value.now) is ∙ equal (eq item.now value.now) same) in
              let no : list_any (λ i. eq i value.now) items ≡ false = position_none (λ i. eq i value.now) items none in
              absurd (cc)
          go (Some n) there = sym number_found ∙ numbered.placed value.now n there

      -- an id of no item, or of an unequal one, is that of a stray
      pub place_of_stray : (item : Option (Bor T)) → option_copied item ≡ slice_get items (number_of id) → true ≡ not (option_eq (λ (x y : Bor T). eq x.now y.now) item (Some value))
          → None ≡ place_of eq value.now items
      place_of_stray item at other = go (place_of eq value.now items) refl
        where
          unequal : (o : Option (Bor T)) (x : T) → option_copied o ≡ Some x → true ≡ not (option_eq (λ (x y : Bor T). eq x.now y.now) o (Some value)) → true ≡ not (eq x value.now)
          unequal None x is other = let no : ◌≡◌ {A = Option T} None (Some x) = is in absurd (cc)
          unequal (Some y) x is other = let same : y.now ≡ x = cc in subst (λ (z : T). true ≡ not (eq z value.now)) same other

          go : (o : Option ℕ) → place_of eq value.now items ≡ o → None ≡ o
          go None none = refl
          go (Some n) there =
              let placed = position-Some (λ i. eq i value.now) items n value.now there in
              let number : Some (number_of id) ≡ Some n = sym number_found ∙ numbered.placed value.now n there in
              let same : number_of id ≡ n = cc in
              let here : option_copied item ≡ Some (get_or items n value.now) = at ∙ ap (slice_get items) same ∙ slice_get-get_or items n value.now placed.0 in
              let not_it : true ≡ not (eq (get_or items n value.now) value.now) = unequal item (get_or items n value.now) here other in
              let contradiction : true ≡ false = not_it ∙ ap not placed.1 in
              absurd (cc)

    module _ (x : T) (none : place_of eq x items ≡ None) (new : List (T × Id K)) (key : T) (id : Id K) (same_key : key ≡ x) (stored : (k : T) → find eq k new ≡ find eq k ((key, id) ∷ ids)) where
      found : (k : T) → find eq k new ≡ find eq k ((x, id) ∷ ids)
      found k = stored k ∙ ap (λ (j : T). find eq k ((j, id) ∷ ids)) same_key

      -- its equals have no place
      none_of : (k : T) → eq x k ≡ true → place_of eq k items ≡ None
      none_of k same = sym (same_place x k items same) ∙ none

      -- an item that isn't there yet gets the id behind the last
      pub numbered_pushed : number_of id ≡ length items → IsNumbered eq has_strays (items ++ x ∷ []) new
      numbered_pushed next = record {
        distinct = IsDistinct-push law items x numbered.distinct (unlike x items none);
        placed = λ k n at. ap (option_map (λ p. number_of p.1)) (found k) ∙ placed k n (eq x k) refl (sym (position-push (λ item. eq item k) items x) ∙ at);
        places = λ whole k. ap (option_map (λ p. number_of p.1)) (found k) ∙ places whole k (eq x k) refl ∙ sym (position-push (λ item. eq item k) items x);
      }
        where
          placed : (k : T) (n : ℕ) (b : Bool) → eq x k ≡ b → option_or (place_of eq k items) (cond b (Some (length items)) None) ≡ Some n → option_map (λ (p : T × Id K). number_of p.1) (cond b (Some (x, id)) (find eq k ids)) ≡ Some n
          placed k n true same at = ap Some next ∙ ap (λ o. option_or o (Some (length items))) (sym (none_of k same)) ∙ at
          placed k n false other at = numbered.placed k n (sym (or_none (place_of eq k items)) ∙ at)

          places : has_strays ≡ false → (k : T) (b : Bool) → eq x k ≡ b → option_map (λ (p : T × Id K). number_of p.1) (cond b (Some (x, id)) (find eq k ids)) ≡ option_or (place_of eq k items) (cond b (Some (length items)) None)
          places whole k true same = rw (none_of k same) (ap Some next)
          places whole k false other = numbered.places whole k ∙ sym (or_none (place_of eq k items))

      -- one that stays without a place is a stray
      pub numbered_strayed : IsNumbered eq true items new
      numbered_strayed = record {
        distinct = numbered.distinct;
        placed = λ k n at. ap (option_map (λ p. number_of p.1)) (found k) ∙ placed k n (eq x k) refl at;
        places = λ whole. absurd (cc);
      }
        where
          placed : (k : T) (n : ℕ) (b : Bool) → eq x k ≡ b → place_of eq k items ≡ Some n → option_map (λ (p : T × Id K). number_of p.1) (cond b (Some (x, id)) (find eq k ids)) ≡ Some n
          placed k n true same at = let none_there = none_of k same in absurd (cc)
          placed k n false other at = numbered.placed k n at

      -- and is none once it was taken out again
      pub numbered_taken : IsNumbered eq has_strays items (without eq x new)
      numbered_taken = record {
        distinct = numbered.distinct;
        placed = λ k n at. ap (option_map (λ p. number_of p.1)) (left k (eq x k) refl) ∙ placed k n (eq x k) refl at;
        places = λ whole k. ap (option_map (λ p. number_of p.1)) (left k (eq x k) refl) ∙ places whole k (eq x k) refl;
      }
        where
          left : (k : T) (b : Bool) → eq x k ≡ b → find eq k (without eq x new) ≡ cond b None (find eq k ids)
          left k true same = sym (find_same law x k (without eq x new) same) ∙ find_without eq law x new
          left k false other = find_without_other eq law k x new other ∙ found k ∙ rw other refl

          placed : (k : T) (n : ℕ) (b : Bool) → eq x k ≡ b → place_of eq k items ≡ Some n → option_map (λ (p : T × Id K). number_of p.1) (cond b None (find eq k ids)) ≡ Some n
          placed k n true same at = let none_there = none_of k same in absurd (cc)
          placed k n false other at = numbered.placed k n at

          places : has_strays ≡ false → (k : T) (b : Bool) → eq x k ≡ b → option_map (λ (p : T × Id K). number_of p.1) (cond b None (find eq k ids)) ≡ place_of eq k items
          places whole k true same = sym (none_of k same)
          places whole k false other = numbered.places whole k

-- without items
pub numbered_none : {T K : Type 0} {eq : T → T → Bool} {items : List T} {ids : List (T × Id K)} → items ≡ [] → ids ≡ [] → IsNumbered eq false items ids
unfolding IsDistinct
numbered_none {T} {K} {eq} {items} {ids} e f =
    let start : IsNumbered {K = K} eq false [] [] = record { distinct = tt; placed = λ x n at. absurd (cc); places = λ whole x. refl } in
    subst (λ l. IsNumbered eq false l ids) (sym e) (subst (λ l. IsNumbered eq false [] l) (sym f) start)
