-- The items of a sequence: the keys of its tree's pairs.
use Rattle.std.proofs.Common.{◌≡◌, ℕ, ◌+◌, ◌-◌, ◌<◌, ◌≤◌, ◌^◌, Bool, false, true, List, [], ◌∷◌, ◌++◌, length, length-append, take, drop, map, reverse, append-nil, refl, sym, ap, ◌∙◌, arith, slice_get, suc, zero}
use Rattle.std.proofs.lemmas.List.{length-drop, length-map, length-reverse, reverse-append, reverse-reverse, take-append-drop, take-map, drop-map, map-append, map-set}
use Rattle.rpds_core.specs.DoubleEnded.{AreFacing}
use Rattle.std.specs.List.{insert, remove}
use Rattle.std.specs.Prelude.{set}
use Rattle.std.specs.Map.{keys_of}
use Rattle.std.specs.Option.{option_map}
use Rattle.std.specs.declared.rc.Rc.{Rc}
use Rattle.rpds_core.specs.declared.map.entry.Entry.{Entry}
use Rattle.rpds_red_black.specs.Sides.{joined}
use Rattle.rpds_red_black.specs.TreeNode.{pair_of}

module _ {T V : Type 0} where
  pub length_items : (es : List (T × V)) → length (keys_of es) ≡ length es
  length_items es = length-map es (λ (p : T × V). p.0)

  pub item_at : (es : List (T × V)) (n : ℕ) → slice_get (keys_of es) n ≡ option_map (λ p. p.0) (slice_get es n)
  item_at [] n = refl
  item_at (e ∷ es) zero = refl
  item_at (e ∷ es) (suc n) = item_at es n

  pub items_joined : (es fs : List (T × V)) → keys_of (es ++ fs) ≡ keys_of es ++ keys_of fs
  items_joined es fs = map-append (λ (p : T × V). p.0) es fs

  pub items_taken : (n : ℕ) (es : List (T × V)) → keys_of (take n es) ≡ take n (keys_of es)
  items_taken n es = sym (take-map (λ (p : T × V). p.0) n es)

  pub items_dropped : (n : ℕ) (es : List (T × V)) → keys_of (drop n es) ≡ drop n (keys_of es)
  items_dropped n es = sym (drop-map (λ (p : T × V). p.0) n es)

  pub items_inserted : (es : List (T × V)) (i : ℕ) (p : T × V) → keys_of (insert es i p) ≡ insert (keys_of es) i p.0
  items_inserted es i p =
      items_joined (take i es) (p ∷ drop i es) ∙ ap (λ z. z ++ p.0 ∷ keys_of (drop i es)) (items_taken i es)
      ∙ ap (λ z. take i (keys_of es) ++ p.0 ∷ z) (items_dropped i es)

  pub items_removed : (es : List (T × V)) (i : ℕ) → keys_of (remove es i) ≡ remove (keys_of es) i
  items_removed es i =
      items_joined (take i es) (drop (suc i) es) ∙ ap (λ z. z ++ keys_of (drop (suc i) es)) (items_taken i es)
      ∙ ap (λ z. take i (keys_of es) ++ z) (items_dropped (suc i) es)

  pub items_set : (es : List (T × V)) (i : ℕ) (p : T × V) → keys_of (set es i p) ≡ set (keys_of es) i p.0
  items_set es i p = map-set (λ (p : T × V). p.0) es i p

  pub items_reversed : (es : List (T × V)) → keys_of (reverse es) ≡ reverse (keys_of es)
  items_reversed [] = refl
  items_reversed (e ∷ es) =
      ap keys_of (reverse-append (e ∷ []) es) ∙ items_joined (reverse es) (e ∷ []) ∙ ap (λ z. z ++ e.0 ∷ []) (items_reversed es)
      ∙ sym (reverse-append (e.0 ∷ []) (keys_of es))

  -- so many items were walked as there are: these are all
  pub all_walked : (xs : List T) (walk : List (T × V)) (items : List T) → xs ++ keys_of walk ≡ items → length items ≤ length xs → xs ≡ items
  all_walked xs [] items h most = sym (append-nil xs) ∙ h
  all_walked xs (p ∷ walk) items h most = absurd (omega (arith, ap length h, length-append xs (p.0 ∷ keys_of walk), most))

  -- one pair at an end, and the others
  pub length_end : (right : Bool) (e : T × V) (es : List (T × V)) → length (joined right [] e es) ≡ length es + 1
  length_end false e es = omega arith
  length_end true e es = omega (arith, length-append es (e ∷ []))

  pub items_end : (right : Bool) (e : T × V) (es : List (T × V)) → keys_of (joined right [] e es) ≡ joined right [] e.0 (keys_of es)
  items_end false e es = refl
  items_end true e es = items_joined es (e ∷ [])

-- a walk over no pairs gives no item
pub no_items : {T V : Type 0} (es : List (T × V)) → length es ≡ 0 → keys_of es ≡ []
no_items [] e = refl
no_items (p ∷ es) e = absurd (omega (arith, e))

module _ {X : Type 0} where
  take_whole : (xs : List X) → take (length xs) xs ≡ xs
  take_whole [] = refl
  take_whole (x ∷ xs) = ap (λ l. x ∷ l) (take_whole xs)

  take_first : (l r : List X) → take (length l) (l ++ r) ≡ l
  take_first [] r = refl
  take_first (x ∷ l) r = ap (λ z. x ∷ z) (take_first l r)

  -- what is left behind the first n, from both ends
  pub facing_from : (n left : ℕ) (es : List X) → left ≡ length es - n → AreFacing (drop n es) (reverse es) left
  facing_from n left es is =
      let rest = drop n es in
      let long : length rest ≡ left = length-drop n es ∙ sym is in
      let turned : length (reverse rest) ≡ left = length-reverse rest ∙ long in
      let back : reverse es ≡ reverse rest ++ reverse (take n es) = ap reverse (sym (take-append-drop n es)) ∙ reverse-append (take n es) rest in
      let front : take left rest ≡ rest = ap (λ k. take k rest) (sym long) ∙ take_whole rest in
      let behind : take left (reverse es) ≡ reverse rest = ap (λ l. take left l) back ∙ ap (λ k. take k (reverse rest ++ reverse (take n es))) (sym turned) ∙ take_first (reverse rest) (reverse (take n es)) in
      record {
        in_front = omega (arith, long);
        in_back = omega (arith, length-reverse es, is);
        same = front ∙ sym (reverse-reverse rest) ∙ ap reverse (sym behind);
      }

  pub taken_from : (n left : ℕ) (es : List X) → left ≡ length es - n → take left (drop n es) ≡ drop n es
  taken_from n left es is = ap (λ k. take k (drop n es)) (is ∙ sym (length-drop n es)) ∙ take_whole (drop n es)

  drop_none : (n : ℕ) → drop {A = X} n [] ≡ []
  drop_none zero = refl
  drop_none (suc n) = refl

  -- no more can be left out than there are
  pub drop_within : (i n : ℕ) (xs : List X) → n ≤ i → (n < length xs → n ≡ i) → drop n xs ≡ drop i xs
  drop_within i n [] few same = drop_none n ∙ sym (drop_none i)
  drop_within i zero (x ∷ xs) few same = ap (λ k. drop k (x ∷ xs)) (same (omega arith))
  drop_within zero (suc n) (x ∷ xs) few same = absurd (omega (arith, few))
  drop_within (suc i) (suc n) (x ∷ xs) few same = drop_within i n xs (omega (arith, few)) (λ h. omega (arith, same (omega (arith, h))))

-- a tree of some pairs has a root
pub rooted : (n d : ℕ) → n < 2 ^ d → 0 < n → 0 < d
rooted n zero few some = absurd (omega (arith, few, some))
rooted n (suc d) few some = omega arith

pub items_entries : {T V A : Type 0} (es : List (Rc (Entry T V) A)) → keys_of (map (λ e. pair_of e.value) es) ≡ map (λ e. e.value.key) es
items_entries [] = refl
items_entries (e ∷ es) = ap (λ z. e.value.key ∷ z) (items_entries es)

abbrev pub paired : {T : Type 0} → T → T × Unit {0}
paired x = (x, tt)

pub items_paired : {T : Type 0} (xs : List T) → keys_of (map paired xs) ≡ xs
items_paired [] = refl
items_paired (x ∷ xs) = ap (λ z. x ∷ z) (items_paired xs)

pub ruleset item_rules = (length_items, item_at, items_joined, items_taken, items_dropped, items_inserted, items_removed, items_set)
