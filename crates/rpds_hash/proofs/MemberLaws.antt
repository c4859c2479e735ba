-- What a set finds before and after a change.
use Rattle.rpds_hash.proofs.Words.{arith, ◌≡◌, ℕ, ◌+◌, ◌&&◌, ◌||◌, Bool, true, false, cond, Some, None, is_some, List, [], ◌∷◌, length, map, refl, ap, sym, ◌∙◌, subst, IsEquivalence, Option, list_all, keys_of, option_map, IsPermutation, IsPermutation-map, IsPut, HashedMap, without, find_member, without_member, is_subset, is_disjoint, IsPutMember}
use Rattle.std.proofs.Common.{IsSome, is_none, slice_get}
use Rattle.std.proofs.lemmas.Bool.{and_parts}
use Rattle.std.specs.List.{IsDistinct}
use Rattle.std.proofs.lemmas.Option.{slice_get-map}
use Rattle.rpds_hash_trie.specs.HashedMap.{find as find_pair}
use Rattle.rpds_hash.specs.HashedSet.{HashedSet}
use Rattle.rpds_hash_trie.proofs.FromIter.{found_put, found_others, find_without, find_without_other}
use Rattle.rpds_hash_trie.proofs.KeyLaws.{one_unless, distinct_without, equal_to, find_at, find_permuted, find_tied, has_put, length_put, length_without, permuted_alike}
use Rattle.rpds_hash.proofs.Members.{to_unit, length_members, member_found}

abbrev pub units : {T : Type 0} → List T → List (T × Unit {0})
units ms = map to_unit ms

keys_of_units : {T : Type 0} (ms : List T) → keys_of (units ms) ≡ ms
keys_of_units [] = refl
keys_of_units (m ∷ ms) = ap (λ t. m ∷ t) (keys_of_units ms)

abbrev as_map : {T H : Type 0} → HashedSet T H → HashedMap T (Unit {0}) H
as_map s = record { entries = units s.members; degree = s.degree; hasher = s.hasher }

-- members that are the same as s are equal to one value
module _ {T S : Type 0} (eq : T → T → Bool) (same : T → S → Bool) (s : S) (alike : (x y : T) → same x s ≡ true → same y s ≡ eq y x) where
  pub find_member_alike : (x : T) → same x s ≡ true → (ms : List T) → find_member same s ms ≡ find_member eq x ms
  find_member_alike x y [] = refl
  find_member_alike x y (m ∷ ms) = grind (arith, find_member_alike x y ms, alike x m y)

  pub without_member_alike : (x : T) → same x s ≡ true → (ms : List T) → without_member same s ms ≡ without_member eq x ms
  without_member_alike x y [] = refl
  without_member_alike x y (m ∷ ms) = grind (arith, without_member_alike x y ms, alike x m y)

module _ {T S : Type 0} (same : T → S → Bool) where
  pub found_member_gone : (s : S) (ms : List T) → find_member same s (without_member same s ms) ≡ None
  found_member_gone s [] = refl
  found_member_gone s (m ∷ ms) = grind (arith, found_member_gone s ms)

module _ {T : Type 0} (eq : T → T → Bool) where
  units_without : (x : T) (ms : List T) → units (without_member eq x ms) ≡ without eq x (units ms)
  units_without x [] = refl
  units_without x (m ∷ ms) = grind (arith, units_without x ms)

  found_in_units : (x : T) (ms : List T) → find_member eq x ms ≡ option_map (λ p. p.0) (find_pair eq x (units ms))
  found_in_units x ms = ap (find_member eq x) (sym (keys_of_units ms)) ∙ member_found eq x (units ms)

  pub pair_in_units : (x : T) (ms : List T) → find_pair eq x (units ms) ≡ option_map to_unit (find_member eq x ms)
  pair_in_units x [] = refl
  pair_in_units x (m ∷ ms) = grind (arith, pair_in_units x ms)

  put_units : {H : Type 0} (x : T) (old new : HashedSet T H) → IsPutMember eq x old new → IsPut eq (to_unit x) (as_map old) (as_map new)
  put_units x old new put = record {
    pairs = rw (← units_without x old.members) (IsPermutation-map to_unit (x ∷ without_member eq x old.members) new.members put.members);
    degree = put.degree;
    hasher = put.hasher;
  }

module _ {T : Type 0} (eq : T → T → Bool) (law : IsEquivalence eq) where
  pub apart : (ms : List T) → IsDistinct eq ms → IsDistinct eq (keys_of (units ms))
  apart ms d = subst (IsDistinct eq) (sym (keys_of_units ms)) d

  pub member_put : {H : Type 0} (x : T) (old new : HashedSet T H) → IsPutMember eq x old new → IsDistinct eq new.members → find_member eq x new.members ≡ Some x
  member_put x old new put d =
      found_in_units eq x new.members ∙ ap (option_map (λ p. p.0)) (found_put eq law (to_unit x) (as_map old) (as_map new) (put_units eq x old new put) (apart new.members d))

  pub member_others : {H : Type 0} (x : T) (old new : HashedSet T H) → IsPutMember eq x old new → IsDistinct eq new.members → (y : T) → eq x y ≡ false → find_member eq y new.members ≡ find_member eq y old.members
  member_others x old new put d y n =
      found_in_units eq y new.members ∙ ap (option_map (λ p. p.0)) (found_others eq law (to_unit x) (as_map old) (as_map new) (put_units eq x old new put) (apart new.members d) y n) ∙ sym (found_in_units eq y old.members)

  pub member_gone : (x : T) (ms : List T) → find_member eq x (without_member eq x ms) ≡ None
  member_gone x ms =
      found_in_units eq x (without_member eq x ms) ∙ ap (λ es. option_map (λ p. p.0) (find_pair eq x es)) (units_without eq x ms) ∙ ap (option_map (λ p. p.0)) (find_without eq law x (units ms))

  pub member_stays : (x y : T) (ms : List T) → eq x y ≡ false → find_member eq y (without_member eq x ms) ≡ find_member eq y ms
  member_stays x y ms n =
      found_in_units eq y (without_member eq x ms) ∙ ap (λ es. option_map (λ p. p.0) (find_pair eq y es)) (units_without eq x ms) ∙ ap (option_map (λ p. p.0)) (find_without_other eq law y x (units ms) n) ∙ sym (found_in_units eq y ms)

  -- what is there, and how many
  kept_some : (f : Option (T × Unit {0})) → is_some (option_map (λ p. p.0) f) ≡ is_some f
  kept_some None = refl
  kept_some (Some p) = refl

  pub had : (x : T) (ms : List T) → is_some (find_member eq x ms) ≡ is_some (find_pair eq x (units ms))
  had x ms = ap is_some (found_in_units eq x ms) ∙ kept_some (find_pair eq x (units ms))

  pub lengths : (ms : List T) → length (units ms) ≡ length ms
  lengths ms = sym (length_members (units ms)) ∙ ap length (keys_of_units ms)

  pub has_put_member : {H : Type 0} (x : T) (old new : HashedSet T H) → IsPutMember eq x old new → IsDistinct eq new.members → (y : T) → is_some (find_member eq y new.members) ≡ (eq x y || is_some (find_member eq y old.members))
  has_put_member x old new put d y =
      had y new.members ∙ has_put law (to_unit x) (as_map old) (as_map new) (put_units eq x old new put) (apart new.members d) y ∙ ap (λ b. eq x y || b) (sym (had y old.members))

  pub length_put_member : {H : Type 0} (x : T) (old new : HashedSet T H) → IsPutMember eq x old new → IsDistinct eq old.members → length new.members ≡ length old.members + one_unless (is_some (find_member eq x old.members))
  length_put_member x old new put d =
      sym (lengths new.members) ∙ length_put law (to_unit x) (as_map old) (as_map new) (put_units eq x old new put) (apart old.members d) ∙ λ i. lengths old.members i + one_unless (sym (had x old.members) i)

  pub length_without_member : (x : T) (ms : List T) → IsDistinct eq ms → length (without_member eq x ms) + cond (is_some (find_member eq x ms)) 1 0 ≡ length ms
  length_without_member x ms d =
      (λ i. (sym (lengths (without_member eq x ms)) ∙ ap length (units_without eq x ms)) i + cond (had x ms i) 1 0) ∙ length_without law x (units ms) (apart ms d) ∙ lengths ms

  pub distinct_without_member : (x : T) (ms : List T) → IsDistinct eq ms → IsDistinct eq (without_member eq x ms)
  distinct_without_member x ms d =
      subst (IsDistinct eq) (keys_of_units (without_member eq x ms)) (subst (λ es. IsDistinct eq (keys_of es)) (sym (units_without eq x ms)) (distinct_without law x (units ms) (apart ms d)))

  -- looking up
  pub member_permuted : (ms ns : List T) → IsPermutation ms ns → IsDistinct eq ns → (x : T) → find_member eq x ns ≡ find_member eq x ms
  member_permuted ms ns permuted d x =
      found_in_units eq x ns ∙ ap (option_map (λ p. p.0)) (find_permuted law (units ms) (units ns) (IsPermutation-map to_unit ms ns permuted) (apart ns d) x) ∙ sym (found_in_units eq x ms)

  pub members_alike : (ms ns : List T) → IsDistinct eq ms → IsDistinct eq ns → ((x : T) → find_member eq x ms ≡ find_member eq x ns) → IsPermutation ms ns
  members_alike ms ns dms dns alike =
      let same : (x : T) → find_pair eq x (units ms) ≡ find_pair eq x (units ns) = λ x. pair_in_units eq x ms ∙ ap (option_map to_unit) (alike x) ∙ sym (pair_in_units eq x ns) in
      subst (λ l. IsPermutation l ns) (keys_of_units ms) (subst (λ l. IsPermutation (keys_of (units ms)) l) (keys_of_units ns) (IsPermutation-map (λ p. p.0) (units ms) (units ns) (permuted_alike law (units ms) (units ns) (apart ms dms) (apart ns dns) same)))

  pub member_at : (ms : List T) (i : ℕ) (m : T) → IsDistinct eq ms → slice_get ms i ≡ Some m → find_member eq m ms ≡ Some m
  member_at ms i m d at =
      found_in_units eq m ms ∙ ap (option_map (λ p. p.0)) (find_at law (units ms) i (to_unit m) (apart ms d) (slice_get-map to_unit ms i ∙ ap (option_map to_unit) at))

  pub member_tied : (x : T) (ms : List T) (m : T) → find_member eq x ms ≡ Some m → eq m x ≡ true
  member_tied x ms m found = find_tied law x (units ms) (to_unit m) (pair_in_units eq x ms ∙ ap (option_map to_unit) found)

  pub find_same_member : (x y : T) (ms : List T) → eq x y ≡ true → find_member eq x ms ≡ find_member eq y ms
  find_same_member x y [] same = refl
  find_same_member x y (m ∷ ms) same = rw (equal_to law m x y same) (ap (cond (eq m y) (Some m)) (find_same_member x y ms same))

  -- sets within and apart from others
  every : (test : T → Bool) → ((x y : T) → eq x y ≡ true → test x ≡ test y) → (ms : List T) → list_all test ms ≡ true → (x : T) → IsSome (find_member eq x ms) → test x ≡ true
  every test same [] all x there = absurd (cc)
  every test same (m ∷ ms) all x there = go (λ there. every test same ms (and_parts (test m) (list_all test ms) all).1 x there) (eq m x) refl there
    where
      go : (IsSome (find_member eq x ms) → test x ≡ true) → (b : Bool) → eq m x ≡ b → is_some (cond b (Some m) (find_member eq x ms)) ≡ true → test x ≡ true
      go rest true is there = sym (same m x is) ∙ (and_parts (test m) (list_all test ms) all).0
      go rest false is there = rest there

  each : (test : T → Bool) → (ms : List T) → ((x : T) → IsSome (find_member eq x ms) → test x ≡ true) → list_all test ms ≡ true
  each test [] all = refl
  each test (m ∷ ms) all = λ i. all m (rw (law.refl m) refl) i && each test ms (λ x there. all x (more x (eq m x) there)) i
    where
      more : (x : T) (b : Bool) → is_some (find_member eq x ms) ≡ true → is_some (cond b (Some m) (find_member eq x ms)) ≡ true
      more x true there = refl
      more x false there = there

  pub within_subset : (ms others : List T) → is_subset eq ms others ≡ true → (x : T) → IsSome (find_member eq x ms) → IsSome (find_member eq x others)
  within_subset ms others = every (λ m. is_some (find_member eq m others)) (λ x y same. ap is_some (find_same_member x y others same)) ms

  pub subset_of_members : (ms others : List T) → ((x : T) → IsSome (find_member eq x ms) → IsSome (find_member eq x others)) → is_subset eq ms others ≡ true
  subset_of_members ms others = each (λ m. is_some (find_member eq m others)) ms

  absent : (f : Option T) → is_none f ≡ true → f ≡ None
  absent None is = refl
  absent (Some x) is = absurd (cc)

  pub apart_disjoint : (ms others : List T) → is_disjoint eq ms others ≡ true → (x : T) → IsSome (find_member eq x ms) → find_member eq x others ≡ None
  apart_disjoint ms others all x there = absent (find_member eq x others) (every (λ m. is_none (find_member eq m others)) (λ x y same. ap is_none (find_same_member x y others same)) ms all x there)

  pub disjoint_of_members : (ms others : List T) → ((x : T) → IsSome (find_member eq x ms) → find_member eq x others ≡ None) → is_disjoint eq ms others ≡ true
  disjoint_of_members ms others all = each (λ m. is_none (find_member eq m others)) ms (λ x there. ap is_none (all x there))
