-- What a key finds after one list goes into another. Also what it finds among the items that only one of two has.
use Rattle.std.proofs.Common.{arith, ◌≡◌, Bool, true, false, cond, if◌then◌else◌, Some, None, is_some, is_none, List, [], ◌∷◌, filter, find, refl, ap, sym, ◌∙◌}
use Rattle.std.proofs.lemmas.Map.Keys.{IsDistinct-head}
use Rattle.std.specs.Cmp.{IsEquivalence}
use Rattle.std.specs.List.{IsDistinct}
use Rattle.std.specs.Map.{keys_of}
use Rattle.std.specs.Option.{option_or, option_xor}
use Rattle.std.specs.declared.option.Option.{Option}
use Rattle.rpds_hash_trie.proofs.KeyLaws.{find_same, none_there}
use Rattle.rpds_hash_trie.specs.HashedMap.{find as pair_of}

module _ {X K : Type 0} (key : X → K) {eq : K → K → Bool} (law : IsEquivalence eq) where
  -- the first item whose key is equal to k
  abbrev pub item_of : K → List X → Option X
  item_of k xs = find (λ x. eq (key x) k) xs

  item_same : (j k : K) (xs : List X) → eq j k ≡ true → item_of j xs ≡ item_of k xs
  item_same j k [] same = refl
  item_same j k (x ∷ xs) same =
      let tied : eq (key x) j ≡ eq (key x) k = law.symm (key x) j ∙ law.congr j k (key x) same ∙ law.symm k (key x) in
      rw tied (ap (cond (eq (key x) k) (Some x)) (item_same j k xs same))

  -- what is found among items that passed a test which those of equal keys pass alike
  find_passed : (test : K → Bool) → ((j k : K) → eq j k ≡ true → test j ≡ test k) → (k : K) (xs : List X)
      → item_of k (filter (λ x. test (key x)) xs) ≡ cond (test k) (item_of k xs) None
  find_passed test same k [] = go (test k)
    where
      go : (b : Bool) → ◌≡◌ {A = Option X} None (cond b None None)
      go true = refl
      go false = refl
  find_passed test same k (x ∷ xs) = grind (arith, find_passed test same k xs, same (key x) k)

  -- those whose keys another list has, and those whose keys it doesn't have
  pub find_shared : (ys : List X) (k : K) (xs : List X) → item_of k (filter (λ x. is_some (item_of (key x) ys)) xs)
      ≡ cond (is_some (item_of k ys)) (item_of k xs) None
  find_shared ys = find_passed (λ j. is_some (item_of j ys)) (λ j k same. ap is_some (item_same j k ys same))

  pub find_lacking : (ys : List X) (k : K) (xs : List X) → item_of k (filter (λ x. is_none (item_of (key x) ys)) xs)
      ≡ cond (is_none (item_of k ys)) (item_of k xs) None
  find_lacking ys = find_passed (λ j. is_none (item_of j ys)) (λ j k same. ap is_none (item_same j k ys same))

-- what is found in one list alone
pub xor_of : {X : Type 0} (a b : Option X) → option_or (cond (is_none b) a None) (cond (is_none a) b None) ≡ option_xor a b
xor_of None None = refl
xor_of None (Some y) = refl
xor_of (Some x) None = refl
xor_of (Some x) (Some y) = refl

-- what k has in a union of two maps, where the keys of `rest` are left to go over: what it has in ours, or the pair of either
abbrev pub IsEitherSoFar : {K V : Type 0} → (K → K → Bool) → List (K × V) → List (K × V) → List (K × V) → K → Option (K × V) → Type 0
IsEitherSoFar eq ours theirs rest k found =
    found ≡ (if is_some (pair_of eq k rest) then pair_of eq k ours else option_or (pair_of eq k ours) (pair_of eq k theirs))

pub either_start : {K V : Type 0} (eq : K → K → Bool) (ours theirs : List (K × V)) (k : K) → IsEitherSoFar eq ours theirs theirs k (pair_of eq k ours)
either_start {K} {V} eq ours theirs k = go (pair_of eq k ours) (pair_of eq k theirs)
  where
    go : (a b : Option (K × V)) → a ≡ (if is_some b then a else option_or a b)
    go a (Some q) = refl
    go (Some p) None = refl
    go None None = refl

-- the step at the first of the keys that are left
module _ {K V : Type 0} {eq : K → K → Bool} (law : IsEquivalence eq) (ours theirs : List (K × V)) (x : K × V) (rest was : List (K × V)) (k : K)
    (distinct : IsDistinct eq (keys_of (x ∷ rest))) where
  once : eq x.0 k ≡ true → pair_of eq k rest ≡ None
  once here = none_there law x.0 k rest here (IsDistinct-head eq x.0 (keys_of rest) distinct)

  has_ours : eq x.0 k ≡ true → is_some (pair_of eq k ours) ≡ is_some (pair_of eq x.0 ours)
  has_ours here = ap is_some (sym (find_same law x.0 k ours here))

  -- where ours has the key, nothing comes
  pub either_stored : is_some (pair_of eq x.0 ours) ≡ true → IsEitherSoFar eq ours theirs (x ∷ rest) k (pair_of eq k was)
      → IsEitherSoFar eq ours theirs rest k (pair_of eq k was)
  either_stored there = go (eq x.0 k) refl (pair_of eq k rest) once
    where
      own : (a b : Option (K × V)) → is_some a ≡ true → a ≡ option_or a b
      own (Some p) b has = refl
      own None b has = absurd (cc)

      go : (here : Bool) → eq x.0 k ≡ here → (left : Option (K × V)) → (here ≡ true → left ≡ None)
          → pair_of eq k was ≡ (if is_some (cond here (Some x) left) then pair_of eq k ours else option_or (pair_of eq k ours) (pair_of eq k theirs))
          → pair_of eq k was ≡ (if is_some left then pair_of eq k ours else option_or (pair_of eq k ours) (pair_of eq k theirs))
      go true e None alone before = before ∙ own (pair_of eq k ours) (pair_of eq k theirs) (has_ours e ∙ there)
      go true e (Some y) alone before = absurd (cc (alone refl))
      go false e left alone before = before

  -- where it doesn't, theirs comes
  pub either_added : (new : List (K × V)) → is_some (pair_of eq x.0 ours) ≡ false → IsEitherSoFar eq ours theirs (x ∷ rest) k (pair_of eq k was)
      → pair_of eq k new ≡ (if eq x.0 k then pair_of eq k theirs else pair_of eq k was) → IsEitherSoFar eq ours theirs rest k (pair_of eq k new)
  either_added new lacks = go (eq x.0 k) refl (pair_of eq k rest) once
    where
      other : (a b : Option (K × V)) → is_some a ≡ false → b ≡ option_or a b
      other None b none = refl
      other (Some p) b none = absurd (cc)

      go : (here : Bool) → eq x.0 k ≡ here → (left : Option (K × V)) → (here ≡ true → left ≡ None)
          → pair_of eq k was ≡ (if is_some (cond here (Some x) left) then pair_of eq k ours else option_or (pair_of eq k ours) (pair_of eq k theirs))
          → pair_of eq k new ≡ (if here then pair_of eq k theirs else pair_of eq k was)
          → pair_of eq k new ≡ (if is_some left then pair_of eq k ours else option_or (pair_of eq k ours) (pair_of eq k theirs))
      go true e None alone before put = put ∙ other (pair_of eq k ours) (pair_of eq k theirs) (has_ours e ∙ lacks)
      go true e (Some y) alone before put = absurd (cc (alone refl))
      go false e left alone before put = put ∙ before
